use Rattle.std.proofs.Common.{length, ◌-◌, ◌≡◌, ◌≤◌, drop}
use Rattle.front_yaml.specs.PlainScalars.{first_colon}
use Rattle.front_yaml.specs.Bytes.{added}
use Rattle.front_yaml.proofs.plain_scalars.first_colon.Given as goal

abbrev pub invariant-loop-n : goal.invariant-loop-n
invariant-loop-n l = record { within : l.n ≤ length l.text; told : added l.n (first_colon (drop l.n l.text)) ≡ first_colon l.text }

abbrev pub decreases-loop-n : goal.decreases-loop-n
decreases-loop-n l = length l.text - l.n
