use Rattle.std.proofs.Common.{◌≡◌}
use Rattle.markdown_grammar.specs.Columns.{shifted}
use Rattle.cm_containers.specs.Spots.{IsSpot, text_at}
use Rattle.cm_containers.proofs.spots.shift.Given as goal

abbrev pub invariant-loop-left : goal.invariant-loop-left
invariant-loop-left l = record {
  spot : IsSpot l.line l.spot;
  so_far : shifted l.left l.spot.column (text_at l.line l.spot) ≡ shifted l.columns l.fn.from.column (text_at l.line l.fn.from);
}

abbrev pub decreases-loop-left : goal.decreases-loop-left
decreases-loop-left l = l.left
