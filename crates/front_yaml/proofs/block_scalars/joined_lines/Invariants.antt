use Rattle.std.proofs.Common.{length, ◌-◌, ◌≡◌, ◌++◌, ◌≤◌, drop}
use Rattle.std.specs.Prelude.{None}
use Rattle.front_yaml.specs.BlockScalars.{joined_lines}
use Rattle.front_yaml.proofs.block_scalars.joined_lines.Given as goal

abbrev pub invariant-loop-n : goal.invariant-loop-n
invariant-loop-n l = record { within : l.n ≤ length l.lines; few : l.blank ≤ l.n; told : l.out.items ++ joined_lines l.joining.folded l.joining.chomp l.joining.indent l.before l.blank (drop l.n l.lines) ≡ joined_lines l.joining.folded l.joining.chomp l.joining.indent None 0 l.lines }

abbrev pub decreases-loop-n : goal.decreases-loop-n
decreases-loop-n l = length l.lines - l.n
