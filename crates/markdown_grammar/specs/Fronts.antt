-- What the readers of the parts of a text share.
use Rattle.std.specs.Prelude.{Bool, List, None, Option, Some, [], false, true, ℕ, ◌==◌, ◌∷◌}

-- a list without elements
abbrev pub is_empty : {A : Type 0} → List A → Bool
is_empty [] = true
is_empty (x ∷ xs) = false

-- two texts have the same bytes
abbrev pub same_bytes : List ℕ → List ℕ → Bool
same_bytes [] [] = true
same_bytes [] (d ∷ ds) = false
same_bytes (c ∷ cs) [] = false
same_bytes (c ∷ cs) (d ∷ ds) = elim (c == d) [ true ↦ same_bytes cs ds | false ↦ false ]

-- the first of two that has an answer
infixr 4 ◌orelse◌
abbrev pub ◌orelse◌ : {A : Type 0} → Option A → Option A → Option A
(Some x) orelse o = Some x
None orelse o = o

-- there is a value
abbrev pub has : {A : Type 0} → Option A → Bool
has (Some x) = true
has None = false
