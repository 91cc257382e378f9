use Rattle.std.proofs.Common.{length, ◌-◌, ◌≡◌, ◌+◌, ◌≤◌, drop, false}
use Rattle.front_yaml.specs.PlainScalars.{plain_len}
use Rattle.front_yaml.proofs.plain_scalars.plain_len.Given as goal

abbrev pub invariant-loop-n : goal.invariant-loop-n
invariant-loop-n l = record { within : l.n ≤ length l.text; counted : l.n + plain_len l.flow l.gap (drop l.n l.text) ≡ plain_len l.flow false l.text }

abbrev pub decreases-loop-n : goal.decreases-loop-n
decreases-loop-n l = length l.text - l.n
