use Rattle.std.proofs.Common.{◌≡◌, All}
use Rattle.site_bench.proofs.claims.seats.Given as goal

abbrev pub invariant-loop : goal.invariant-loop
invariant-loop l = record {
  first : l.first.table ≡ l.fn.table;
  seats : All (λ seat. seat.table ≡ l.fn.table) l.made.items;
}
