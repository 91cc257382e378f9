use Rattle.std.proofs.Common.{length, ◌-◌, ◌≡◌, ◌++◌, ◌≤◌, drop}
use Rattle.front_yaml.specs.Folding.{within, folded}
use Rattle.front_yaml.proofs.folding.folded.Given as goal

abbrev pub invariant-loop-n : goal.invariant-loop-n
invariant-loop-n l = record { bound : l.n ≤ length l.text; told : l.out.items ++ folded l.escapes within 0 (drop l.n l.text) ≡ folded l.escapes within 0 l.text }

abbrev pub decreases-loop-n : goal.decreases-loop-n
decreases-loop-n l = length l.text - l.n
