use Rattle.std.proofs.Common.{◌≡◌}
use Rattle.claim_table.proofs.thread_tests.work.Given as goal

abbrev pub invariant-loop-item : goal.invariant-loop-item
invariant-loop-item l = record {
  table : l.seat.table ≡ l.fn.table;
  had : l.seat.done ≡ l.had.items;
}
