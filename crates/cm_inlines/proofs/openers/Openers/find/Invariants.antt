use Rattle.std.proofs.Common.{◌≤◌, All, drop, length}
use Rattle.cm_inlines.specs.Pairing.{OpensNot}
use Rattle.cm_spans.specs.Pieces.{mark_byte}
use Rattle.cm_inlines.proofs.openers.Openers.find.Given as goal

abbrev pub invariant-loop-k : goal.invariant-loop-k
invariant-loop-k l = record {
  within : l.k ≤ length l.self.places.items;
  behind : All (OpensNot l.nodes (mark_byte l.closer.mark) l.closer.first l.closer.opens) (drop l.k l.self.places.items);
}

abbrev pub decreases-loop-k : goal.decreases-loop-k
decreases-loop-k l = l.k
