-- The inlines of a text: code spans, autolinks and raw HTML bind tightest, then brackets, then emphasis. CommonMark 0.31.2, section 6.
use Rattle.std.specs.Prelude.{List, [], drop, if◌then◌else◌, length, reverse, take, ℕ, ◌++◌, ◌+◌, ◌-◌, ◌==◌, ◌∷◌}
use Rattle.site_base.specs.Recursion.{down}
use Rattle.site_text.specs.Bytes.{right_bracket}
use Rattle.markdown_grammar.specs.Definitions.{Definition}
use Rattle.markdown_grammar.specs.Emphasis.{pairs}
use Rattle.markdown_grammar.specs.Inlines.{Inlines}
use Rattle.markdown_grammar.specs.Links.{close_bracket}
use Rattle.markdown_grammar.specs.Pieces.{Piece}
use Rattle.markdown_grammar.specs.Spans.{piece_at}

-- pieces so far, the bytes before with the last first, and what is left
pub record Spot : Type 0 where
  pub before : List Piece
  pub done : List ℕ
  pub left : List ℕ

-- n bytes further, of which the first is c
abbrev pub further : List Piece → ℕ → List ℕ → ℕ → List ℕ → Spot
further before n done c cs = record { before = before; done = reverse (take (n - 1) cs) ++ c ∷ done; left = drop (n - 1) cs }

-- the spot behind the next piece, or behind what a `]` makes
abbrev pub next_spot : List Definition → List Piece → List ℕ → ℕ → List ℕ → Spot
next_spot defs before done c cs = if c == right_bracket
    then (let r = close_bracket defs before cs in further r.0 (r.1 + 1) done c cs)
    else (let r = piece_at done (c ∷ cs) in further (before ++ r.0 ∷ []) r.1 done c cs)

-- the pieces are all there, or the reading goes on
abbrev pub pieces_at : List Definition → (Spot → List Piece) → List Piece → List ℕ → List ℕ → List Piece
pieces_at defs rest before done [] = before
pieces_at defs rest before done (c ∷ cs) = rest (next_spot defs before done c cs)

-- one piece, then the others
abbrev pub pieces_step : List Definition → (Spot → List Piece) → Spot → List Piece
pieces_step defs rest s = pieces_at defs rest s.before s.done s.left

-- what is left, in which the reading falls
abbrev pub left_len : Spot → ℕ
left_len s = length s.left

-- the pieces of the whole text, from a spot on
unfoldable pub pieces_from : List Definition → Spot → List Piece
pieces_from defs s = down left_len [] (pieces_step defs) s

-- before the whole text
abbrev pub first_spot : List ℕ → Spot
first_spot t = record { before = []; done = []; left = t }

-- the inlines of a text, where these definitions are known
unfoldable pub inlines : List Definition → List ℕ → Inlines
inlines defs t = pairs (pieces_from defs (first_spot t))
