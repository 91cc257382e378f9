-- Links and images: what a `]` makes of the pieces before it and the text behind it. CommonMark 0.31.2, sections 6.3 and 6.4.
use Rattle.std.specs.Prelude.{Bool, List, None, Option, Some, [], codes, drop, false, if◌then◌else◌, length, not, take, true, ℕ, ◌++◌, ◌+◌, ◌-◌, ◌==◌, ◌∷◌}
use Rattle.site_text.specs.Bytes.{exclamation_mark, left_bracket, left_paren, right_bracket, right_paren}
use Rattle.site_text.specs.Fronts.{begins_with, first_byte}
use Rattle.markdown_grammar.specs.Definitions.{Definition, Target, look_up}
use Rattle.markdown_grammar.specs.Destinations.{destination}
use Rattle.markdown_grammar.specs.Emphasis.{last_that, pairs}
use Rattle.markdown_grammar.specs.Fronts.{◌orelse◌}
use Rattle.markdown_grammar.specs.Inlines.{image, link, no_inlines, textual}
use Rattle.markdown_grammar.specs.Labels.{is_label, label_key, link_label}
use Rattle.markdown_grammar.specs.Pieces.{Piece, delimiter_run, finished, open_bracket}
use Rattle.markdown_grammar.specs.Readers.{some_white_gap, taken, white_gap}
use Rattle.markdown_grammar.specs.Spans.{between_ends}
use Rattle.markdown_grammar.specs.Titles.{link_title}

-- where a link goes, and how many bytes stand for it behind `]`
abbrev pub Reached : Type 0
Reached = Target × ℕ

-- `(`, destination, title, `)`; n bytes are taken so far
abbrev pub closing_paren : Target → ℕ → List ℕ → Option Reached
closing_paren target n t = let g = taken (white_gap t) in if first_byte (drop g t) == right_paren then Some (target, n + g + 1) else None

-- white space and a title, which there may be, and `)`
abbrev pub with_title : List ℕ → ℕ → List ℕ → Option Reached
with_title url n t =
    elim (some_white_gap t) [
      | Some g ↦ elim (link_title (drop g t)) [ Some w ↦ closing_paren (url, Some w.0) (n + g + w.1) (drop (g + w.1) t) | None ↦ closing_paren (url, None) n t ]
      | None ↦ closing_paren (url, None) n t
    ]

-- 6.3: `(..)` behind a link text
abbrev pub inline_target : List ℕ → Option Reached
inline_target t =
    let g = taken (white_gap (drop 1 t)) in
    if not (first_byte t == left_paren) then None else
    elim (destination (drop (1 + g) t)) [ Some d ↦ with_title d.0 (1 + g + d.1) (drop (1 + g + d.1) t) | None ↦ closing_paren ([], None) 1 (drop 1 t) ]

-- the target that a label has in the definitions
abbrev pub defined : List Definition → ℕ → List ℕ → Option Reached
defined defs n name = elim (if is_label name then look_up (label_key name) defs else None) [ Some target ↦ Some (target, n) | None ↦ None ]

-- full, collapsed and shortcut references: a label that follows decides alone
abbrev pub named_target : List Definition → List ℕ → List ℕ → Option Reached
named_target defs name t =
    elim (link_label t) [
      | Some n ↦ defined defs n (between_ends n t)
      | None ↦ (if begins_with (codes "[]") t then defined defs 2 name else defined defs 0 name)
    ]

-- an inline link wins over a reference
abbrev pub target_of : List Definition → List ℕ → List ℕ → Option Reached
target_of defs name t = inline_target t orelse named_target defs name t

-- no link stands in a link: the brackets before it open none
abbrev pub calmed : List Piece → List Piece
calmed [] = []
calmed (open_bracket false active behind ∷ ps) = open_bracket false false behind ∷ calmed ps
calmed (open_bracket true active behind ∷ ps) = open_bracket true active behind ∷ calmed ps
calmed (finished xs ∷ ps) = finished xs ∷ calmed ps
calmed (delimiter_run mark len first o c ∷ ps) = delimiter_run mark len first o c ∷ calmed ps

-- a link or an image in place of its brackets; no bracket before a link opens another
abbrev pub linked : Bool → List Piece → Target → List Piece → List Piece
linked true front target inside = front ++ finished (image target.0 target.1 (pairs inside) no_inlines) ∷ []
linked false front target inside = calmed front ++ finished (link target.0 target.1 (pairs inside) no_inlines) ∷ []

-- a piece is an open bracket
abbrev pub is_bracket : Piece → Bool
is_bracket (open_bracket is_image active behind) = true
is_bracket (finished xs) = false
is_bracket (delimiter_run mark len first o c) = false

-- the pieces after a `]`, and how many bytes behind it are taken
abbrev pub Closed : Type 0
Closed = List Piece × ℕ

-- `]` as text
abbrev pub closing_text : Piece
closing_text = finished (textual (right_bracket ∷ []) no_inlines)

-- an open bracket as text
abbrev pub bracket_piece : Bool → Piece
bracket_piece true = finished (textual (exclamation_mark ∷ left_bracket ∷ []) no_inlines)
bracket_piece false = finished (textual (left_bracket ∷ []) no_inlines)

-- the brackets make no link: both are text
abbrev pub unlinked : Bool → List Piece → List Piece → Closed
unlinked is_image front inside = (front ++ (bracket_piece is_image ∷ (inside ++ closing_text ∷ [])), 0)

-- what a `]` makes with an open bracket
abbrev pub close_with : List Definition → List ℕ → List Piece → Piece → List Piece → Closed
close_with defs t front (open_bracket is_image true behind) inside =
    elim (target_of defs (take (length behind - (length t + 1)) behind) t) [
      | Some r ↦ (linked is_image front r.0 inside, r.1)
      | None ↦ unlinked is_image front inside
    ]
close_with defs t front (open_bracket is_image false behind) inside = unlinked is_image front inside
close_with defs t front (finished xs) inside = (front ++ inside, 0)
close_with defs t front (delimiter_run mark len first o c) inside = (front ++ inside, 0)

-- what a `]` makes of the pieces before it and the text behind it: it goes with the nearest bracket
abbrev pub close_bracket : List Definition → List Piece → List ℕ → Closed
close_bracket defs before t = elim (last_that is_bracket before) [ Some f ↦ close_with defs t f.0 f.1 f.2 | None ↦ (before ++ closing_text ∷ [], 0) ]
