use Rattle.std.proofs.Common.{length, ◌-◌, ◌≡◌, ◌≤◌, drop}
use Rattle.front_yaml.specs.Quotes.{bad_escape}
use Rattle.front_yaml.specs.Bytes.{added}
use Rattle.front_yaml.proofs.escapes.bad_escape.Given as goal

abbrev pub invariant-loop-n : goal.invariant-loop-n
invariant-loop-n l = record { within : l.n ≤ length l.text; told : added l.n (bad_escape 0 (drop l.n l.text)) ≡ bad_escape 0 l.text }

abbrev pub decreases-loop-n : goal.decreases-loop-n
decreases-loop-n l = length l.text - l.n
