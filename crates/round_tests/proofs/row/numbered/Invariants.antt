use Rattle.std.proofs.Common.{◌≡◌, length}
use Rattle.round_tests.specs.Rows.{AreNumbered}
use Rattle.round_tests.proofs.row.numbered.Given as goal

abbrev pub invariant-loop-part : goal.invariant-loop-part
invariant-loop-part l = record {
  numbered : AreNumbered l.names.items;
  count : length l.names.items ≡ l.part;
}
