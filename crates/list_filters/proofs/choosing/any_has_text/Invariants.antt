use Rattle.std.proofs.Common.{◌≡◌, drop}
use Rattle.site_base.specs.View.{items_of}
use Rattle.list_filters.specs.Choosing.{any_has_text}
use Rattle.list_filters.proofs.choosing.any_has_text.Given as goal

abbrev pub invariant-loop-value : goal.invariant-loop-value
invariant-loop-value l = any_has_text l.text (items_of (drop l.value-index l.values)) ≡ any_has_text l.text (items_of l.values)
