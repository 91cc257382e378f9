-- Names in any order.
use Rattle.std.specs.Prelude.{◌≡◌, ℕ, ◌+◌, ◌≤◌, if◌then◌else◌, List, [], ◌∷◌, ◌++◌}
use Rattle.site_base.specs.declared.item_name.ItemName.{ItemName}
use Rattle.memo_table.specs.Names.{same_name}

-- how often the name stands in the list
abbrev pub times : ItemName → List ItemName → ℕ
times name [] = 0
times name (other ∷ rest) = (if same_name name other then 1 else 0) + times name rest

-- the same names, each as often
abbrev pub SameNames : List ItemName → List ItemName → Type 0
SameNames a b = (name : ItemName) → times name a ≡ times name b

-- all of the first names, each as often, and besides at most the further ones
abbrev pub HasBetween : List ItemName → List ItemName → List ItemName → Type 0
HasBetween sure further names = (name : ItemName) → (times name sure ≤ times name names) × (times name names ≤ times name sure + times name further)

-- names were added at the end
abbrev pub Grows : List ItemName → List ItemName → Type 0
Grows before after = (added : List ItemName) × (after ≡ before ++ added)
