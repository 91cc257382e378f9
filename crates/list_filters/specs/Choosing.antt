-- What is chosen among elements, by their keys. After the reference of Liquid 4 (Shopify) and that of Jekyll 4, "Filters" (`compact`, `uniq`, `where`).
use Rattle.std.specs.Prelude.{ℕ, Bool, true, false, not, ◌||◌, List, [], ◌∷◌, if◌then◌else◌}
use Rattle.std.specs.List.{filter, list_any}
use Rattle.std.specs.Str.{bytes_eq}
use Rattle.site_base.specs.Code.{code}
use Rattle.site_base.specs.Plain.{Plain, nil, list, Items, no_items, item}
use Rattle.site_base.specs.Values.{value_text}
use Rattle.filter_base.specs.Keyed.{Entry, values}

abbrev pub is_filled : Plain → Bool
is_filled nil = false
is_filled v = true

abbrev pub has_text : List ℕ → Plain → Bool
has_text t v = bytes_eq (value_text v) t

abbrev pub any_has_text : List ℕ → Items → Bool
any_has_text t no_items = false
any_has_text t (item v is) = has_text t v || any_has_text t is

-- not nil, and of this text, or a list of which an element is
abbrev pub shows_text : List ℕ → Plain → Bool
shows_text t nil = false
shows_text t (list is) = any_has_text t is
shows_text t k = has_text t k

-- whether a key is what is wanted: nil for nil, and else what shows its text
abbrev pub is_wanted : Plain → Plain → Bool
is_wanted nil k = not (is_filled k)
is_wanted w k = shows_text (value_text w) k

-- the elements whose key passes a test
abbrev pub chosen : (Plain → Bool) → List Entry → Items
chosen test es = values (filter (λ e. test e.key) es)

abbrev pub same_value : Plain → Plain → Bool
same_value v w = bytes_eq (code v) (code w)

abbrev pub item_if : Bool → Plain → Items → Items
item_if b v is = if b then item v is else is

-- the elements whose key is none of these, nor that of an element before
abbrev pub first_of_each : List Plain → List Entry → Items
first_of_each met [] = no_items
first_of_each met (e ∷ es) = item_if (not (list_any (same_value e.key) met)) e.value (first_of_each (e.key ∷ met) es)
