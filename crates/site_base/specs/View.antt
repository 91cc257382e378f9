-- The plain tree of a value.
use Rattle.std.specs.Prelude.{List, [], ◌∷◌}
use Rattle.std.specs.Arc.{arc_value}
use Rattle.site_base.specs.Plain.{Plain, nil, bool, int, text, list, hash, site_item, range, Items, no_items, item, Pairs, no_pairs, pair}
use Rattle.site_base.specs.declared.value.Value.{Value}
use Rattle.site_base.specs.declared.value.Value.TheVariants as the
use Rattle.site_base.specs.declared.value.Pair.{Pair}
use Rattle.site_base.specs.declared.value.ListPlace.{ListPlace}
use Rattle.site_base.specs.declared.value.ListPlace.TheVariants as list_place
use Rattle.site_base.specs.declared.value.HashPlace.{HashPlace}
use Rattle.site_base.specs.declared.value.HashPlace.TheVariants as hash_place

abbrev pub plain : Value → Plain
plain the.Nil = nil
plain (the.Bool b) = bool b
plain (the.Int n) = int n
plain (the.Text t) = text t
plain (the.List is) = list is
plain (the.Hash ps) = hash ps
plain (the.Item name) = site_item name.path name.part
plain (the.Range a b) = range a b

abbrev pub items_of : List Value → Items
items_of [] = no_items
items_of (v ∷ vs) = item (plain v) (items_of vs)

abbrev pub pairs_of : List Pair → Pairs
pairs_of [] = no_pairs
pairs_of (p ∷ ps) = pair p.key (plain p.value) (pairs_of ps)

-- wherever the values of a list stand

abbrev pub items_at : ListPlace → Items
items_at list_place.Nowhere = no_items
items_at (list_place.Own values) = items_of values.value.items
items_at (list_place.Shared values) = items_of (arc_value values).items

abbrev pub pairs_at : HashPlace → Pairs
pairs_at hash_place.Nowhere = no_pairs
pairs_at (hash_place.Own body) = body.value
pairs_at (hash_place.Shared body) = arc_value body
