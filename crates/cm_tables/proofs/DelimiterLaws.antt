-- The cells of a delimiter row, one after another.
use Rattle.std.proofs.Common.{List, None, Option, Some, [], ap, append_assoc, option_map, refl, ℕ, ◌++◌, ◌∙◌, ◌∷◌, ◌≡◌}
use Rattle.markdown_grammar.specs.Tables.{align_of, aligns_of}
use Rattle.markdown_grammar.specs.declared.align.Align.{Align}

abbrev with_align : List (List ℕ) → Option Align → Option (List Align)
with_align cells first = elim first as (λ x. Option (List Align)) [ Some align ↦ option_map (λ aligns. align ∷ aligns) (aligns_of cells) | None ↦ None ]

-- a cell that gives an alignment
pub aligns_more : (made : List Align) (cell : List ℕ) (cells : List (List ℕ)) (align : Align) → Some align ≡ align_of cell
    → option_map (λ rest. (made ++ align ∷ []) ++ rest) (aligns_of cells) ≡ option_map (λ rest. made ++ rest) (aligns_of (cell ∷ cells))
aligns_more made cell cells align is = behind (aligns_of cells) ∙ ap (λ first. option_map (λ rest. made ++ rest) (with_align cells first)) is where
  behind : (others : Option (List Align)) → option_map (λ rest. (made ++ align ∷ []) ++ rest) others ≡ option_map (λ rest. made ++ rest) (option_map (λ aligns. align ∷ aligns) others)
  behind (Some others) = ap Some (append_assoc made (align ∷ []) others)
  behind None = refl

-- a cell that gives none
pub aligns_none : (made : List Align) (cell : List ℕ) (cells : List (List ℕ)) → None ≡ align_of cell → None ≡ option_map (λ rest. made ++ rest) (aligns_of (cell ∷ cells))
aligns_none made cell cells is = ap (λ first. option_map (λ rest. made ++ rest) (with_align cells first)) is
