use Rattle.std.proofs.Common.{◌≡◌, All}
use Rattle.claim_table.specs.Seats.{empty_seat}
use Rattle.render_workers.proofs.spreading.seats.Given as goal

abbrev pub invariant-loop : goal.invariant-loop
invariant-loop l = record {
  same : l.first ≡ l.initial.first;
  seats : All (λ seat. seat ≡ empty_seat l.fn.table) l.made.items;
}
