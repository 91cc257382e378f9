use Rattle.std.proofs.Common.{◌≡◌, All}
use Rattle.claim_table.specs.Seats.{empty_seat}
use Rattle.claim_table.proofs.thread_tests.seats.Given as goal

abbrev pub invariant-loop : goal.invariant-loop
invariant-loop l = record {
  same : l.first ≡ l.initial.first;
  seats : All (λ seat. seat ≡ empty_seat l.fn.table) l.made.items;
}
