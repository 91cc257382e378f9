-- Each value is smaller than the list or hash that holds it.
use Rattle.std.specs.Prelude.{◌≤◌, ◌*◌, max, List, [], ◌∷◌}
use Rattle.std.specs.Arc.{arc_value}
use Rattle.std.proofs.Common.{arith}
use denote.Param.Weighed.{most}
use Rattle.site_base.specs.Plain.{weight, items_weight, list_size, body_size, hash_size}
use Rattle.site_base.specs.View.{plain, items_of, pairs_of, items_at, pairs_at}
use Rattle.site_base.specs.declared.value.Hash.TheDeep.{deep-Value, deep-Pair, deep-ListPlace, deep-HashPlace}
use Rattle.site_base.specs.declared.value.Value.{Value}
use Rattle.site_base.specs.declared.value.Pair.{Pair}
use Rattle.site_base.specs.declared.value.Value.TheVariants as the
use Rattle.site_base.specs.declared.value.ListPlace.{ListPlace}
use Rattle.site_base.specs.declared.value.ListPlace.TheVariants as list_place
use Rattle.site_base.specs.declared.value.HashPlace.{HashPlace}
use Rattle.site_base.specs.declared.value.HashPlace.TheVariants as hash_place

deep_le : (v : Value) → deep-Value v ≤ 2 * weight (plain v)
deep_le the.Nil = omega arith
deep_le (the.Bool b) = omega arith
deep_le (the.Int n) = omega arith
deep_le (the.Text t) = omega arith
deep_le (the.List is) = omega arith
deep_le (the.Hash ps) = omega arith
deep_le (the.Item name) = omega arith
deep_le (the.Range a b) = omega arith

items_fall : (vs : List Value) → most deep-Value vs ≤ 2 * items_weight (items_of vs)
items_fall [] = omega arith
items_fall (v ∷ vs) = omega (arith, deep_le v, items_fall vs)

pub body_falls : (ps : List Pair) → max (most deep-Pair ps) 0 ≤ body_size (pairs_of ps)
body_falls [] = omega arith
body_falls (p ∷ ps) = omega (arith, deep_le p.value, body_falls ps)

pub list_falls : (place : ListPlace) → max (deep-ListPlace place) 0 ≤ list_size (items_at place)
list_falls list_place.Nowhere = omega arith
list_falls (list_place.Own values) = omega (arith, items_fall values.value.items)
list_falls (list_place.Shared values) = omega (arith, items_fall (arc_value values).items)

pub hash_falls : (place : HashPlace) → max (deep-HashPlace place) 0 ≤ hash_size (pairs_at place)
hash_falls hash_place.Nowhere = omega arith
hash_falls (hash_place.Own body) = omega arith
hash_falls (hash_place.Shared body) = omega arith
