use Rattle.std.proofs.Common.{◌≡◌, drop}
use Rattle.site_base.specs.View.{items_of}
use Rattle.liquid_values.specs.Names.{holds_item}
use Rattle.liquid_values.proofs.site_members.holds_item.Given as goal

abbrev pub invariant-loop-value : goal.invariant-loop-value
invariant-loop-value l = holds_item l.item (items_of l.values) ≡ holds_item l.item (items_of (drop l.value-index l.values))
