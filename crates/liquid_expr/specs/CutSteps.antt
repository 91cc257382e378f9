-- A text that is cut piece by piece: what is left of it, and what a step adds.
use Rattle.std.specs.Prelude.{◌≡◌, ℕ, ◌+◌, ◌≤◌, ◌<◌, false, List, [], ◌∷◌, ◌++◌, length, drop}
use Rattle.liquid_grammar.specs.declared.piece.Piece.{Piece}
use Rattle.liquid_grammar.specs.Pieces.{Rest, size, line_ends, cut_is, with_front, cut_from}
use Rattle.liquid_expr.specs.Spans.{IsSpanOf}
use Rattle.liquid_expr.specs.declared.cutting.Cutter.{Cutter}
use Rattle.liquid_expr.specs.declared.cutting.Next.{Next}
use Rattle.liquid_expr.specs.declared.cutting.Next.TheVariants as next

abbrev pub whole : List ℕ → Rest
whole text = record { at = 0; line = 1; trims = false; text = text }

abbrev pub left : Cutter → Rest
left c = record { at = c.at; line = c.line + line_ends c.passed.now; trims = c.trims; text = drop c.at c.text.now }

abbrev pub IsPlaced : Cutter → Type 0
IsPlaced c = (c.at ≤ length c.text.now) × (c.line + length c.passed.now ≤ c.at + 1)

-- these pieces stand next, or the text ends or goes on without an end
abbrev pub Cuts : Next → List Piece → List Piece → Cutter → Cutter → Type 0
Cuts next.Pieces old new before after = (ps : List Piece) × (new ≡ old ++ ps) × (cut_from (left before) ≡ with_front ps (cut_from (left after))) × IsPlaced after × (size (left after) < size (left before))
Cuts (next.End unclosed) old new before after = (new ≡ old) × (cut_from (left before) ≡ cut_is [] unclosed)

-- the insides of pieces are parts of the text
abbrev pub AreSpans : List ℕ → List Piece → Type 0
AreSpans text [] = Unit {0}
AreSpans text (p ∷ ps) = IsSpanOf text p.inner × AreSpans text ps
