use Rattle.std.proofs.Common.{length, ◌*◌, ◌+◌, ◌-◌, ◌≡◌}
use Rattle.cm_containers.specs.Spots.{IsSpot, rest_at}
use Rattle.cm_blocks.specs.Flat as flat
use Rattle.cm_blocks.specs.Opening.{IsKnownIf}
use Rattle.cm_blocks.specs.Walks.{shown}
use Rattle.cm_blocks.proofs.walk.Walk.begin.Given as goal

abbrev pub invariant-loop-held : goal.invariant-loop-held
invariant-loop-held l = record {
  spot : IsSpot l.line l.spot;
  known : IsKnownIf l.line l.known;
  so_far : flat.begin (shown l.self) (rest_at l.line l.spot) ≡ flat.begin (shown l.initial.self) (rest_at l.line l.initial.spot);
}

abbrev pub decreases-loop-held : goal.decreases-loop-held
decreases-loop-held l = 4 * length l.line + 4 - l.spot.column
