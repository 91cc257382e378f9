use Rattle.std.proofs.Common.{◌≡◌}
use Rattle.claim_table.proofs.tests.answers.Given as goal

abbrev pub invariant-loop-item : goal.invariant-loop-item
invariant-loop-item l = l.seat.table ≡ l.fn.table
