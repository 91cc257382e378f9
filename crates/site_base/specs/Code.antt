-- The code of a value: one text for each.
use Rattle.std.specs.Prelude.{ℕ, Bool, true, false, ◌==◌, List, [], ◌∷◌, ◌++◌, length, Option, Some, None, if◌then◌else◌}
use Rattle.site_base.specs.Decimal.{decimal, signed}
use Rattle.site_base.specs.Plain.{Plain, nil, bool, int, text, list, hash, site_item, range, Items, no_items, item, Pairs, no_pairs, pair, count, count_pairs}

-- `s`, the length, `:` and the bytes
abbrev pub text_code : List ℕ → List ℕ
text_code s = 115 ∷ (decimal (length s) ++ (58 ∷ s))

-- `t` or `f`
abbrev pub bool_code : Bool → ℕ
bool_code true = 116
bool_code false = 102

-- a letter for the kind, and what the value is made of
abbrev mutual
  pub code : Plain → List ℕ
  code nil = 110 ∷ []
  code (bool b) = bool_code b ∷ []
  code (int n) = 105 ∷ (signed n ++ (59 ∷ []))
  code (text s) = text_code s
  code (list is) = 108 ∷ (decimal (count is) ++ (58 ∷ items_code is))
  code (hash ps) = 104 ∷ (decimal (count_pairs ps) ++ (58 ∷ pairs_code ps))
  code (site_item path part) = 112 ∷ (text_code path ++ (decimal part ++ (59 ∷ [])))
  code (range a b) = 114 ∷ (signed a ++ (59 ∷ (signed b ++ (59 ∷ []))))

  pub items_code : Items → List ℕ
  items_code no_items = []
  items_code (item v is) = code v ++ items_code is

  pub pairs_code : Pairs → List ℕ
  pairs_code no_pairs = []
  pairs_code (pair k v ps) = text_code k ++ (code v ++ pairs_code ps)

-- what follows the bytes at the front of a text, where they stand there
abbrev pub after : List ℕ → List ℕ → Option (List ℕ)
after [] s = Some s
after (c ∷ cs) [] = None
after (c ∷ cs) (d ∷ ds) = if c == d then after cs ds else None

-- and of what was found to follow other bytes
abbrev pub past : List ℕ → Option (List ℕ) → Option (List ℕ)
past cs None = None
past cs (Some s) = after cs s
