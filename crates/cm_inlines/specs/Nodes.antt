-- What nodes stand for.
use Rattle.std.specs.Char.{encode_utf8}
use Rattle.std.specs.Prelude.{◌≡◌, List, None, [], codes, drop, map, replicate, ℕ, ◌++◌, ◌∷◌}
use Rattle.markdown_grammar.specs.CodeSpans.{spaced}
use Rattle.markdown_grammar.specs.Emphasis.{bracket_text}
use Rattle.cm_inlines.specs.Cells.{Cell, bracket_cell, plain_tokens, run_cell, sealed}
use Rattle.cm_inlines.specs.Words.{word_tokens}
use Rattle.cm_inlines.specs.Tokens as token
use Rattle.cm_inlines.specs.Tokens.{Token, tokens, tree_of}
use Rattle.cm_inlines.specs.declared.node.Node.{Node}
use Rattle.cm_spans.specs.Pieces.{mark_byte}
use Rattle.cm_inlines.specs.declared.node.Node.TheVariants as node

-- an address that is its own text
abbrev pub address_cells : List ℕ → List ℕ → List Cell
address_cells front s = sealed (token.open_link (front ++ s) None) ∷ sealed (token.text_token s) ∷ sealed token.close_link ∷ []

-- a node of a text
abbrev pub cells_at : List ℕ → Node → List Cell
cells_at t (node.Text s) = sealed (token.text_token s.now) ∷ []
cells_at t (node.Words s) = map sealed (word_tokens s.now)
cells_at t (node.Character c) = sealed (token.text_token (encode_utf8 c)) ∷ []
cells_at t node.SoftBreak = sealed token.soft_token ∷ []
cells_at t node.HardBreak = sealed token.hard_token ∷ []
cells_at t (node.Code s) = sealed (token.code_token (spaced s.now)) ∷ []
cells_at t (node.Html s) = sealed (token.html_token s.now) ∷ []
cells_at t (node.Uri s) = address_cells [] s.now
cells_at t (node.Email s) = address_cells (codes "mailto:") s.now
cells_at t node.OpenEmphasis = sealed token.open_emphasis ∷ []
cells_at t node.CloseEmphasis = sealed token.close_emphasis ∷ []
cells_at t node.OpenStrong = sealed token.open_strong ∷ []
cells_at t node.CloseStrong = sealed token.close_strong ∷ []
cells_at t (node.OpenLink target) = sealed (token.open_link target.url target.title) ∷ []
cells_at t node.CloseLink = sealed token.close_link ∷ []
cells_at t (node.OpenImage target) = sealed (token.open_image target.url target.title) ∷ []
cells_at t node.CloseImage = sealed token.close_image ∷ []
cells_at t (node.Marks mark len) = sealed (token.text_token (replicate len (mark_byte mark))) ∷ []
cells_at t (node.Bracket is_image) = sealed (token.text_token (bracket_text is_image)) ∷ []
cells_at t (node.Run r) = run_cell (mark_byte r.mark) r.len r.first r.opens r.closes ∷ []
cells_at t (node.Opening o) = bracket_cell o.is_image o.is_active (drop o.behind t) ∷ []
cells_at t node.Nothing = []

abbrev pub cells : List ℕ → List Node → List Cell
cells t [] = []
cells t (n ∷ ns) = cells_at t n ++ cells t ns

-- the tokens of nodes, in which what nothing pairs is text
abbrev pub tokens_in : List Node → List Token
tokens_in ns = plain_tokens (cells [] ns)

-- the nodes are laid out as a tree
abbrev pub IsLaidOut : List Node → Type 0
IsLaidOut ns = tokens (tree_of (tokens_in ns)) ≡ tokens_in ns
