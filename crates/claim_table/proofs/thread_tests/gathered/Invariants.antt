use Rattle.std.proofs.Common.{◌≡◌, All, IfSome, length}
use Rattle.claim_table.specs.Counts.{EachOnce}
use Rattle.claim_table.proofs.thread_tests.gathered.Given as goal

abbrev pub invariant-loop-part : goal.invariant-loop-part
invariant-loop-part l = record {
  table : l.all.seat.table ≡ l.fn.table;
  had : l.all.seat.done ≡ l.all.had.items;
  once : EachOnce l.all.seat.mine l.all.seat.done;
  parts : All (λ part. IfSome part (λ p. (p.seat.table ≡ l.fn.table) × (p.seat.done ≡ p.had.items))) l.parts.items;
}

abbrev pub decreases-loop-part : goal.decreases-loop-part
decreases-loop-part l = length l.parts.items
