-- The filters that sort. After the reference of Liquid 4 (Shopify) and that of Jekyll 4, "Filters" (`sort`, `sort_natural`).
use Rattle.std.specs.Prelude.{ℕ, List, [], ◌∷◌, map, codes, if◌then◌else◌, Option, Some, None, Result, Ok, Err}
use Rattle.std.specs.Char.{to_ascii_lowercase}
use Rattle.std.specs.Str.{bytes_eq}
use Rattle.site_base.specs.Plain.{Plain, nil, text, list, hash, Items, no_items, item, Pairs, no_pairs, pair}
use Rattle.site_base.specs.Values.{value_text}
use Rattle.site_base.specs.declared.faults.FaultKind.{FaultKind}
use Rattle.site_base.specs.declared.faults.FaultKind.TheVariants.{FilterArgument, Unlike}
use Rattle.read_record.specs.Queries.{Query, Give, Fail, bind}
use Rattle.filter_base.specs.Answers.{made}
use Rattle.filter_base.specs.Arguments.{one_or_none}
use Rattle.filter_base.specs.Keyed.{Source, entries, paired, source, name_given, keyed}
use Rattle.list_filters.specs.KeyOrder.{are_alike, sorted}
use Rattle.list_filters.specs.declared.key_order.NilPlace.{NilPlace}
use Rattle.list_filters.specs.declared.key_order.NilPlace.TheVariants.{First, Last}
use Rattle.list_filters.specs.declared.sortings.Sorting.{Sorting}
use Rattle.list_filters.specs.declared.sortings.Sorting.TheVariants.{Sort, SortNatural}

-- a hash as lists of a name and its value, by the names
abbrev pub pair_list : List ℕ → Plain → Items
pair_list k v = item (text k) (item v no_items)

abbrev pub pair_lists : Pairs → Items
pair_lists no_pairs = no_items
pair_lists (pair k v ps) = item (list (pair_list k v)) (pair_lists ps)

abbrev pub names : Pairs → Items
names no_pairs = no_items
names (pair k v ps) = item (text k) (names ps)

abbrev pub sort_source : Option (List ℕ) → Plain → Query FaultKind Source
sort_source None (hash ps) = Give (source (pair_lists ps) (names ps))
sort_source name v = keyed name v

abbrev pub ordered : NilPlace → Source → Result Plain FaultKind
ordered nils s = if are_alike s.keys then Ok (list (sorted nils (entries s))) else Err Unlike

abbrev pub sort : Plain → Option Plain → NilPlace → Query FaultKind Plain
sort v p nils = bind (sort_source (name_given p) v) (λ s. made (ordered nils s))

-- where nil stands, by a word for it
abbrev pub named_place : List ℕ → Result NilPlace FaultKind
named_place t =
    if bytes_eq t (codes "first") then Ok First
    else if bytes_eq t (codes "last") then Ok Last
    else Err FilterArgument

abbrev pub nil_place : Plain → Result NilPlace FaultKind
nil_place (text t) = named_place t
nil_place v = Err FilterArgument

abbrev pub sort_by_arguments : Plain → List Plain → Query FaultKind Plain
sort_by_arguments v [] = sort v None First
sort_by_arguments v (p ∷ []) = sort v (Some p) First
sort_by_arguments v (p ∷ w ∷ []) = bind (made (nil_place w)) (λ nils. sort v (Some p) nils)
sort_by_arguments v ws = Fail FilterArgument

-- the text of what is not nil, in small letters
abbrev pub natural : Plain → Plain
natural nil = nil
natural v = text (map to_ascii_lowercase (value_text v))

abbrev pub natural_items : Items → Items
natural_items no_items = no_items
natural_items (item k ks) = item (natural k) (natural_items ks)

abbrev pub naturally_sorted : Source → Items
naturally_sorted s = sorted First (paired s.elements (natural_items s.keys))

abbrev pub sort_natural : Plain → Option Plain → Query FaultKind Plain
sort_natural v p = bind (keyed (name_given p) v) (λ s. Give (list (naturally_sorted s)))

abbrev pub sort_filter : Sorting → Plain → List Plain → Query FaultKind Plain
sort_filter Sort v ws = sort_by_arguments v ws
sort_filter SortNatural v ws = bind (made (one_or_none ws)) (λ p. sort_natural v p)
