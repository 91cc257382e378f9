use Rattle.std.proofs.Common.{length, ◌-◌, ◌≡◌, ◌≤◌, drop, if◌then◌else◌}
use Rattle.front_yaml.specs.Quotes.{single_len}
use Rattle.front_yaml.specs.Bytes.{added}
use Rattle.front_yaml.proofs.quote_ends.single_len.Given as goal

abbrev pub invariant-loop-n : goal.invariant-loop-n
invariant-loop-n l = record { within : l.n ≤ length l.text; told : added l.n (single_len (if l.second then 1 else 0) (drop l.n l.text)) ≡ single_len 0 l.text }

abbrev pub decreases-loop-n : goal.decreases-loop-n
decreases-loop-n l = length l.text - l.n
