-- Pieces of inlines one after another, where those that are finished are seen as their tokens.
use Rattle.std.specs.Prelude.{Bool, List, [], map, replicate, ℕ, ◌++◌, ◌∷◌}
use Rattle.markdown_grammar.specs.Emphasis.{bracket_text}
use Rattle.markdown_grammar.specs.Pieces.{Piece, delimiter_run, finished, open_bracket}
use Rattle.cm_inlines.specs.Tokens.{Token, text_token, tokens}

pub data Cell : Type 0 where
  sealed : (t : Token) → Cell
  run_cell : (mark len first : ℕ) → (opens closes : Bool) → Cell
  bracket_cell : (is_image active : Bool) → (behind : List ℕ) → Cell

abbrev pub cells_in : Piece → List Cell
cells_in (finished xs) = map sealed (tokens xs)
cells_in (delimiter_run mark len first o c) = run_cell mark len first o c ∷ []
cells_in (open_bracket is_image active behind) = bracket_cell is_image active behind ∷ []

abbrev pub cells_of : List Piece → List Cell
cells_of [] = []
cells_of (p ∷ ps) = cells_in p ++ cells_of ps

-- what is left of a cell that nothing pairs is text
abbrev pub token_of : Cell → Token
token_of (sealed t) = t
token_of (run_cell mark len first o c) = text_token (replicate len mark)
token_of (bracket_cell is_image active behind) = text_token (bracket_text is_image)

abbrev pub plain_tokens : List Cell → List Token
plain_tokens [] = []
plain_tokens (c ∷ cs) = token_of c ∷ plain_tokens cs
