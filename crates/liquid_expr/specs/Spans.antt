-- Spans by which a text can be cut.
use Rattle.std.specs.Prelude.{ℕ, ◌≤◌, List}
use Rattle.std.specs.Str.{IsCharBoundary}
use Rattle.liquid_grammar.specs.declared.piece.Span.{Span}

pub record IsSpanOf (text : List ℕ) (s : Span) : Type 0 where
  pub order : s.start ≤ s.end
  pub starts : IsCharBoundary text s.start
  pub ends : IsCharBoundary text s.end
