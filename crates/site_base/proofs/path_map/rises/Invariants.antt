use Rattle.site_base.proofs.Sorting.{NextAbove}
use Rattle.site_base.proofs.path_map.rises.Given as goal

abbrev pub invariant-loop-place : goal.invariant-loop-place
invariant-loop-place g l = NextAbove l.entries l.place
