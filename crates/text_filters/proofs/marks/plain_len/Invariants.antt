use Rattle.std.proofs.Common.{◌≡◌, ◌++◌, ◌-◌, ◌<◌, ◌≤◌, length, take, drop}
use Rattle.text_filters.specs.Marks.{marked_after}
use Rattle.text_filters.proofs.marks.plain_len.Given as goal

abbrev pub invariant-loop-len : goal.invariant-loop-len
invariant-loop-len l = record {
  some : 0 < l.len;
  within : l.len ≤ length l.bytes;
  plain : take l.len l.bytes ++ marked_after l.mark 0 (drop l.len l.bytes) ≡ marked_after l.mark 0 l.bytes;
}

abbrev pub decreases-loop-len : goal.decreases-loop-len
decreases-loop-len l = length l.bytes - l.len
