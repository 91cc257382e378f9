use Rattle.std.proofs.Common.{◌≡◌, ◌++◌, ◌∷◌, drop}
use Rattle.front_yaml.specs.TextLines.{stream}
use Rattle.front_yaml.proofs.line_leaves.joined.Given as goal

abbrev pub invariant-loop-line : goal.invariant-loop-line
invariant-loop-line l = l.out.items ++ stream (drop l.line-index l.lines) ≡ l.fn.text ++ (10 ∷ stream l.fn.lines)
