-- Where items stand.
use Rattle.std.specs.Prelude.{ℕ, Option, ◌&&◌, ◌==◌}
use Rattle.std.specs.Str.{bytes_eq}
use Rattle.indexmap.specs.IndexMap.{get_by}
use Rattle.site_base.specs.declared.item_name.ItemName.{ItemName}
use Rattle.site_world.specs.declared.item_places.ItemPlaces.{ItemPlaces}

-- the place under a name
abbrev pub place_in : ItemPlaces → ItemName → Option ℕ
place_in m name = get_by (λ k. bytes_eq name.path k.path.now && (name.part == k.part)) m.places
