use Rattle.std.proofs.Common.{◌≡◌, ◌≤◌, length, drop}
use Rattle.site_base.specs.View.{items_of}
use Rattle.filter_base.specs.Lists.{reversed}
use Rattle.filter_base.proofs.lists.reversed.Given as goal

abbrev pub invariant-loop-place : goal.invariant-loop-place
invariant-loop-place l = record {
  within : l.place ≤ length l.values;
  so_far : l.list ≡ reversed (items_of (drop l.place l.values));
}

abbrev pub decreases-loop-place : goal.decreases-loop-place
decreases-loop-place l = l.place
