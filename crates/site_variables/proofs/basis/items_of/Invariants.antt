use Rattle.std.proofs.Common.{◌≡◌, map, take}
use Rattle.site_variables.specs.Resting.{item_facts, noted_facts}
use Rattle.site_variables.proofs.basis.items_of.Given as goal

abbrev pub invariant-loop-item : goal.invariant-loop-item
invariant-loop-item l = map noted_facts l.made.items ≡ map item_facts (take l.item-index l.items)
