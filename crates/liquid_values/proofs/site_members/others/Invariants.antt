use Rattle.std.proofs.Common.{◌≡◌, drop}
use Rattle.site_base.specs.Plain.{onto}
use Rattle.site_base.specs.View.{items_of}
use Rattle.liquid_values.specs.Names.{others}
use Rattle.liquid_values.proofs.site_members.others.Given as goal

abbrev pub invariant-loop-value : goal.invariant-loop-value
invariant-loop-value l = others l.item 10 (items_of l.values) ≡ onto l.list (others l.item l.left (items_of (drop l.value-index l.values)))
