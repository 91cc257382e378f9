use Rattle.std.proofs.Common.{length, ◌-◌, ◌≡◌, ◌+◌, ◌≤◌, drop, false}
use Rattle.front_yaml.specs.Gaps.{gap_len}
use Rattle.front_yaml.proofs.gaps.gap_len.Given as goal

abbrev pub invariant-loop-n : goal.invariant-loop-n
invariant-loop-n l = record { within : l.n ≤ length l.text; counted : l.n + gap_len l.gap l.comment (drop l.n l.text) ≡ gap_len l.fn.gap false l.text }

abbrev pub decreases-loop-n : goal.decreases-loop-n
decreases-loop-n l = length l.text - l.n
