use Rattle.std.proofs.Common.{◌≡◌, drop}
use Rattle.site_base.specs.Plain.{onto}
use Rattle.site_base.specs.View.{items_of}
use Rattle.list_filters.specs.Sortings.{natural_items}
use Rattle.list_filters.proofs.sortings.natural_keys.Given as goal

abbrev pub invariant-loop-key : goal.invariant-loop-key
invariant-loop-key l = onto l.list (natural_items (items_of (drop l.key-index l.keys))) ≡ natural_items (items_of l.keys)
