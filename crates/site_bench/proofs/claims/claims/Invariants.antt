use Rattle.std.proofs.Common.{◌≡◌, ◌≤◌}
use Rattle.site_bench.proofs.claims.claims.Given as goal

abbrev pub invariant-loop-item : goal.invariant-loop-item
invariant-loop-item l = record {
  table : l.seat.table ≡ l.fn.table;
  count : l.claimed ≤ l.item;
}
