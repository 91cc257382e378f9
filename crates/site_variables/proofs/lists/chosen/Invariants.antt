use Rattle.std.proofs.Common.{◌≡◌, drop}
use Rattle.std.specs.Prelude.{filter}
use Rattle.site_base.specs.Plain.{onto}
use Rattle.site_variables.specs.Choosing.{takes}
use Rattle.site_variables.specs.Lists.{each, named}
use Rattle.site_variables.proofs.lists.chosen.Given as goal

abbrev pub invariant-loop-item : goal.invariant-loop-item
invariant-loop-item l = onto l.list (each named (filter (takes l.choice l.config) (drop l.item-index l.items))) ≡ each named (filter (takes l.choice l.config) l.items)
