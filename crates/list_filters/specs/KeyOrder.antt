-- The order of keys, and sorting by it. After the reference of Liquid 4 (Shopify) and that of Jekyll 4, "Filters" (`sort`).
use Rattle.std.specs.Prelude.{ℕ, Bool, true, List, [], ◌∷◌, Option, Some, None, is_some}
use Rattle.std.specs.List.{filter, list_all}
use Rattle.std.specs.Ordering.{nat_cmp, ordering_then, is_lt}
use Rattle.std.specs.declared.cmp.Ordering.{Ordering}
use Rattle.std.specs.declared.cmp.Ordering.TheVariants.{Equal}
use Rattle.site_base.specs.StableSort.{stable_sort}
use Rattle.site_base.specs.Plain.{Plain, nil, int, text, Items, item_list}
use Rattle.site_base.specs.Values.{order}
use Rattle.filter_base.specs.Keyed.{Entry, values}
use Rattle.list_filters.specs.Choosing.{is_filled}
use Rattle.list_filters.specs.declared.key_order.NilPlace.{NilPlace}
use Rattle.list_filters.specs.declared.key_order.NilPlace.TheVariants.{First, Last}

-- nil stands before all kinds, or behind them
abbrev pub nil_rank : NilPlace → ℕ
nil_rank First = 0
nil_rank Last = 4

abbrev pub rank : NilPlace → Plain → ℕ
rank nils nil = nil_rank nils
rank nils (int n) = 1
rank nils (text t) = 2
rank nils v = 3

abbrev pub or_equal : Option Ordering → Ordering
or_equal None = Equal
or_equal (Some o) = o

-- by kind, and two numbers or two texts by their order
abbrev pub key_order : NilPlace → Plain → Plain → Ordering
key_order nils k l = ordering_then (nat_cmp (rank nils k) (rank nils l)) (or_equal (order k l))

-- whether each has an order with the first
abbrev pub have_order : List Plain → Bool
have_order [] = true
have_order (k ∷ ks) = list_all (λ l. is_some (order k l)) ks

-- the keys but nil are numbers alone, or texts alone, or only one
abbrev pub are_alike : Items → Bool
are_alike ks = have_order (filter is_filled (item_list ks))

abbrev pub key_below : NilPlace → Entry → Entry → Bool
key_below nils d e = is_lt (key_order nils d.key e.key)

abbrev pub sorted : NilPlace → List Entry → Items
sorted nils es = values (stable_sort (key_below nils) es)
