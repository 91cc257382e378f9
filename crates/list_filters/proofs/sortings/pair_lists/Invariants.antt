use Rattle.std.proofs.Common.{◌≡◌, drop}
use Rattle.site_base.specs.Plain.{onto}
use Rattle.site_base.specs.View.{pairs_of}
use Rattle.list_filters.specs.Sortings.{pair_lists}
use Rattle.list_filters.proofs.sortings.pair_lists.Given as goal

abbrev pub invariant-loop-pair : goal.invariant-loop-pair
invariant-loop-pair l = onto l.lists (pair_lists (pairs_of (drop l.pair-index l.pairs))) ≡ pair_lists (pairs_of l.pairs)
