use Rattle.std.proofs.Common.{◌≡◌, drop}
use Rattle.front_yaml.specs.BlockScalars.{short_line}
use Rattle.front_yaml.proofs.block_scalars.short_line.Given as goal

abbrev pub invariant-loop-line : goal.invariant-loop-line
invariant-loop-line l = short_line l.indent (drop l.line-index l.lines) ≡ short_line l.indent l.fn.lines
