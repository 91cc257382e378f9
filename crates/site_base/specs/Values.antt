-- What a value means where a text, a test or an order is asked of it.
use Rattle.std.specs.Prelude.{ℕ, ℤ, Bool, true, false, List, [], ◌∷◌, ◌++◌, Option, Some, None, codes}
use Rattle.std.specs.Ordering.{int_cmp, nat_cmp}
use Rattle.std.specs.Cmp.Lexicographic.{slice_cmp}
use Rattle.std.specs.declared.cmp.Ordering.{Ordering}
use Rattle.site_base.specs.Decimal.{signed}
use Rattle.site_base.specs.Plain.{Plain, nil, bool, int, text, list, hash, site_item, range, Items, no_items, item}

abbrev pub bool_text : Bool → List ℕ
bool_text true = codes "true"
bool_text false = codes "false"

abbrev pub range_text : ℤ → ℤ → List ℕ
range_text a b = signed a ++ (46 ∷ 46 ∷ signed b)

-- nothing, a hash and an item have the empty text
abbrev mutual
  pub value_text : Plain → List ℕ
  value_text nil = []
  value_text (bool b) = bool_text b
  value_text (int n) = signed n
  value_text (text s) = s
  value_text (list is) = items_text is
  value_text (hash ps) = []
  value_text (site_item path part) = []
  value_text (range a b) = range_text a b

  pub items_text : Items → List ℕ
  items_text no_items = []
  items_text (item v is) = value_text v ++ items_text is

-- nil and false alone are not true
abbrev pub is_true : Plain → Bool
is_true nil = false
is_true (bool b) = b
is_true v = true

-- two numbers stand in an order, and two texts, by their bytes
abbrev pub order : Plain → Plain → Option Ordering
order (int n) (int m) = Some (int_cmp n m)
order (text s) (text t) = Some (slice_cmp nat_cmp s t)
order v w = None
