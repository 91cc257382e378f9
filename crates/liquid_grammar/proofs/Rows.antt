-- Worked rows of pieces.
use Rattle.std.proofs.Common.{◌≡◌, ℕ, List, [], ◌∷◌, codes, refl, map, Ok, Err, Result}
use Rattle.site_base.specs.Recursion.{down}
use Rattle.liquid_grammar.specs.declared.piece.Piece.{Piece}
use Rattle.liquid_grammar.specs.Pieces.{cut, cut_from}

-- the end and the inside of each piece
abbrev ends : Result (List Piece) ℕ → List (ℕ × ℕ × ℕ × ℕ)
ends (Ok ps) = map (λ p. (p.span.end, p.inner.start, p.inner.end, p.line)) ps
ends (Err n) = (0, 0, 0, n) ∷ []

plain : ends (cut (codes "ab")) ≡ (2, 0, 2, 1) ∷ []
unfolding cut_from down
plain = refl

empty : cut [] ≡ Ok []
unfolding cut_from down
empty = refl

output : ends (cut (codes "a {{- b -}} \n c")) ≡ (2, 0, 1, 1) ∷ (11, 5, 8, 1) ∷ (15, 14, 15, 1) ∷ []
unfolding cut_from down
output = refl

raw : ends (cut (codes "\n{% raw -%} {{ a }}{%- endraw %}b")) ≡ (1, 0, 1, 1) ∷ (11, 3, 8, 2) ∷ (19, 12, 19, 2) ∷ (32, 22, 30, 2) ∷ (33, 32, 33, 2) ∷ []
unfolding cut_from down
raw = refl

empty_raw : ends (cut (codes "{%raw%}{%endraw%}")) ≡ (7, 2, 5, 1) ∷ (17, 9, 15, 1) ∷ []
unfolding cut_from down
empty_raw = refl

comment : ends (cut (codes "{%comment%}{{ {%endcomment%}")) ≡ (11, 2, 9, 1) ∷ (14, 11, 11, 1) ∷ (28, 16, 26, 1) ∷ []
unfolding cut_from down
comment = refl

open_comment : ends (cut (codes "{%comment%}{{ ")) ≡ (11, 2, 9, 1) ∷ (14, 11, 11, 1) ∷ []
unfolding cut_from down
open_comment = refl

one_dash : ends (cut (codes " {{-}} ")) ≡ (1, 0, 0, 1) ∷ (6, 4, 4, 1) ∷ (7, 7, 7, 1) ∷ []
unfolding cut_from down
one_dash = refl

unclosed : cut (codes "x\n\n{{ a") ≡ Err 3
unfolding cut_from down
unclosed = refl

unclosed_raw : cut (codes "\n{% raw %}{% endra %}") ≡ Err 2
unfolding cut_from down
unclosed_raw = refl
