use Rattle.std.proofs.Common.{drop, length, ◌-◌, ◌≡◌, ◌≤◌}
use Rattle.markdown_grammar.specs.Columns.{own_line}
use Rattle.cm_containers.specs.Entries.{matched_by}
use Rattle.cm_containers.specs.Spots.{IsSpot, rest_at}
use Rattle.cm_containers.proofs.Walking.{more_kept}
use Rattle.cm_containers.proofs.matching.enter_all.Given as goal

abbrev pub invariant-loop-kept : goal.invariant-loop-kept
invariant-loop-kept l = record {
  within : l.kept ≤ length l.containers;
  spot : IsSpot l.line l.spot;
  so_far : more_kept l.kept (matched_by l.is_filled (drop l.kept l.containers) (rest_at l.line l.spot)) ≡ matched_by l.is_filled l.containers (own_line 0 l.line);
}

abbrev pub decreases-loop-kept : goal.decreases-loop-kept
decreases-loop-kept l = length l.containers - l.kept
