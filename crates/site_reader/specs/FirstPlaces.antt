-- Where texts stand in a list.
use Rattle.std.specs.Prelude.{ℕ, List, Option}
use Rattle.std.specs.Borrow.{Bor}
use Rattle.std.specs.List.{position_or_len}
use Rattle.std.specs.Str.{bytes_eq}
use Rattle.indexmap.specs.IndexMap.{IndexMap, get_by}

-- the first place of a text, or the list's length where it is not there
abbrev pub first_place : List (List ℕ) → List ℕ → ℕ
first_place texts x = position_or_len (λ t. bytes_eq t x) texts

-- the place under a text
abbrev pub place_in : {S : Type 0} → IndexMap (Bor (List ℕ)) ℕ S → List ℕ → Option ℕ
place_in m x = get_by (λ k. bytes_eq x k.now) m
