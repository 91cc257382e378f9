use Rattle.std.proofs.Common.{◌≡◌, ◌↔◌, drop, map}
use Rattle.site_variables.specs.Resting.{item_facts, noted_facts}
use Rattle.site_variables.proofs.basis.are_items.Given as goal

abbrev pub invariant-loop-place : goal.invariant-loop-place
invariant-loop-place l = (map noted_facts (drop l.place l.noted) ≡ map item_facts (drop l.place l.items)) ↔ (map noted_facts l.noted ≡ map item_facts l.items)
