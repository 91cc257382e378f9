use Rattle.std.proofs.Common.{◌≡◌, drop}
use Rattle.front_yaml.specs.LineFaults.{left_fault}
use Rattle.front_yaml.proofs.line_faults.left_fault.Given as goal

abbrev pub invariant-loop-line : goal.invariant-loop-line
invariant-loop-line l = left_fault l.floor (drop l.line-index l.lines) ≡ left_fault l.floor l.fn.lines
