-- What is dropped with a list is smaller than the list.
use Rattle.std.proofs.Common.{ℕ, ◌+◌, ◌*◌, ◌<◌, ◌≤◌, List, [], ◌∷◌, arith}
use Rattle.std.specs.Arc.{arc_value}
use denote.Param.Weighed.{most}
use Rattle.site_base.specs.Plain.{weight, items_weight, list_size}
use Rattle.site_base.specs.View.{plain, items_of, items_at}
use Rattle.site_base.specs.declared.value.Hash.TheDeep.{size-Value}
use Rattle.site_base.specs.declared.value.Value.{Value}
use Rattle.site_base.specs.declared.value.Value.TheVariants as the
use Rattle.site_base.specs.declared.value.ListPlace.{ListPlace}
use Rattle.site_base.specs.declared.value.ListPlace.TheVariants as list_place

size_le : (v : Value) → size-Value v ≤ 6 * weight (plain v) + 1
size_le the.Nil = omega arith
size_le (the.Bool b) = omega arith
size_le (the.Int n) = omega arith
size_le (the.Text t) = omega arith
size_le (the.List is) = omega arith
size_le (the.Hash ps) = omega arith
size_le (the.Item name) = omega arith
size_le (the.Range a b) = omega arith

sizes_le : (vs : List Value) → most size-Value vs ≤ 6 * items_weight (items_of vs)
sizes_le [] = omega arith
sizes_le (v ∷ vs) = omega (arith, size_le v, sizes_le vs)

-- the largest of the values at a place
abbrev pub most_at : ListPlace → ℕ
most_at list_place.Nowhere = 0
most_at (list_place.Own values) = most size-Value values.value.items
most_at (list_place.Shared values) = most size-Value (arc_value values).items

pub most_falls : (place : ListPlace) → most_at place < 3 * (list_size (items_at place) + 1)
most_falls list_place.Nowhere = omega arith
most_falls (list_place.Own values) = omega (arith, sizes_le values.value.items)
most_falls (list_place.Shared values) = omega (arith, sizes_le (arc_value values).items)
