-- Elements in groups by a property. After Jekyll 4's manual, "Liquid Filters": `group_by`.
use Rattle.std.specs.Prelude.{ℕ, ℤ, pos, List, [], ◌∷◌, codes, Option, Some, None, Result, Ok}
use Rattle.site_base.specs.Chains.{◌>>=◌}
use Rattle.site_base.specs.Plain.{Plain, nil, bool, int, text, list, hash, site_item, range, Items, no_items, Pairs, no_pairs, pair, count, onto, get, set}
use Rattle.site_base.specs.Values.{value_text}
use Rattle.site_base.specs.declared.faults.FaultKind.{FaultKind}
use Rattle.read_record.specs.Queries.{Query, bind}
use Rattle.filter_base.specs.Answers.{made}
use Rattle.filter_base.specs.Arguments.{one}
use Rattle.filter_base.specs.Elements.{alone}
use Rattle.filter_base.specs.Keyed.{Entry, Source, entries, keyed}
use Rattle.filter_base.specs.Numerals.{fitting}

-- the items of a list, and none of any other value
abbrev pub items_in : Plain → Items
items_in nil = no_items
items_in (bool b) = no_items
items_in (int n) = no_items
items_in (text t) = no_items
items_in (list is) = is
items_in (hash ps) = no_items
items_in (site_item path part) = no_items
items_in (range a b) = no_items

abbrev pub items_found : Option Plain → Items
items_found None = no_items
items_found (Some v) = items_in v

-- an element behind the others of its group
abbrev pub added : List ℕ → Plain → Pairs → Pairs
added name v groups = set name (list (onto (items_found (get name groups)) (alone v))) groups

-- elements by the texts of their keys, in the order in which these are first seen
abbrev pub groups : List Entry → Pairs → Pairs
groups [] so_far = so_far
groups (e ∷ es) so_far = groups es (added (value_text e.key) e.value so_far)

abbrev pub size_of : Plain → Result ℤ FaultKind
size_of members = fitting (pos (count (items_in members)))

abbrev pub group : List ℕ → Plain → ℤ → Plain
group name members size = hash (pair (codes "name") (text name) (pair (codes "items") members (pair (codes "size") (int size) no_pairs)))

-- a hash for each group, behind others
abbrev pub shown : Pairs → Items → Result Items FaultKind
shown no_pairs is = Ok is
shown (pair name members rest) is = size_of members >>= λ size. shown rest (onto is (alone (group name members size)))

abbrev pub shown_groups : Pairs → Result Plain FaultKind
shown_groups ps = shown ps no_items >>= λ is. Ok (list is)

abbrev pub grouped : Source → Result Plain FaultKind
grouped s = shown_groups (groups (entries s) no_pairs)

abbrev pub grouped_by : List ℕ → Plain → Query FaultKind Plain
grouped_by name v = bind (keyed (Some name) v) (λ s. made (grouped s))

abbrev pub group_by : Plain → List Plain → Query FaultKind Plain
group_by v ws = bind (made (one ws)) (λ w. grouped_by (value_text w) v)
