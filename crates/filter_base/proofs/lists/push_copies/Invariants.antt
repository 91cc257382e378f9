use Rattle.std.proofs.Common.{◌≡◌, drop}
use Rattle.site_base.specs.Plain.{onto}
use Rattle.site_base.specs.View.{items_of}
use Rattle.filter_base.proofs.lists.push_copies.Given as goal

abbrev pub invariant-loop-value : goal.invariant-loop-value
invariant-loop-value l = onto l.list (items_of (drop l.value-index l.values)) ≡ onto l.initial.list (items_of l.values)
