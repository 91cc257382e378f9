use Rattle.std.proofs.Common.{◌≡◌, drop}
use Rattle.site_base.specs.Plain.{onto}
use Rattle.site_base.specs.View.{pairs_of}
use Rattle.list_filters.specs.Sortings.{names}
use Rattle.list_filters.proofs.sortings.names.Given as goal

abbrev pub invariant-loop-pair : goal.invariant-loop-pair
invariant-loop-pair l = onto l.list (names (pairs_of (drop l.pair-index l.pairs))) ≡ names (pairs_of l.pairs)
