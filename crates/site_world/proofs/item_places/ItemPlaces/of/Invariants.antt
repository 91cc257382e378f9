use Rattle.std.proofs.Common.{◌≡◌, take}
use Rattle.std.specs.List.{position}
use Rattle.memo_table.specs.Names.{same_name}
use Rattle.site_base.specs.declared.item_name.ItemName.{ItemName}
use Rattle.site_world.specs.Indices.{place_in}
use Rattle.site_world.proofs.item_places.ItemPlaces.of.Given as goal

abbrev pub invariant-loop-place : goal.invariant-loop-place
invariant-loop-place l = (name : ItemName) → place_in l.made name ≡ position (λ item. same_name item.name name) (take l.place l.items)
