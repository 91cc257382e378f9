-- Pieces that stand for themselves: escapes, references, breaks, autolinks, raw HTML and text. CommonMark 0.31.2, sections 2.4, 2.5 and 6.5 to 6.9.
use Rattle.std.specs.Char.{encode_utf8}
use Rattle.std.specs.Prelude.{List, None, Some, [], codes, drop, false, if◌then◌else◌, nat_lt, not, suc, take, true, ℕ, ◌&&◌, ◌++◌, ◌+◌, ◌-◌, ◌==◌, ◌||◌, ◌∷◌}
use Rattle.markdown_grammar.specs.Autolinks.{email, pointed, uri}
use Rattle.site_text.specs.Bytes.{ampersand, backslash, backtick, exclamation_mark, is_punct, is_special, left_bracket, less_than, line_feed, space, star, underscore}
use Rattle.site_text.specs.Fronts.{first_byte, run_len}
use Rattle.markdown_grammar.specs.CodeSpans.{Taken, as_textual, code_at}
use Rattle.markdown_grammar.specs.Flanking.{char_after, char_before}
use Rattle.markdown_grammar.specs.Inlines.{hard_break, link, no_inlines, raw_html, soft_break, textual}
use Rattle.markdown_grammar.specs.Pieces.{Piece, finished, open_bracket, run_at}
use Rattle.markdown_grammar.specs.References.{front_reference}
use Rattle.markdown_grammar.specs.Tags.{html_tag}

-- an autolink, whose text is its address
abbrev pub to_link : List ℕ → List ℕ → Piece
to_link front t = finished (link (front ++ t) None (textual t no_inlines) no_inlines)

-- n bytes without the first and the last
abbrev pub between_ends : ℕ → List ℕ → List ℕ
between_ends n t = take (n - 2) (drop 1 t)

-- `<`: an autolink, raw HTML, or text
abbrev pub pointed_at : List ℕ → Taken
pointed_at t =
    elim (pointed uri t) [
      | Some n ↦ (to_link [] (between_ends n t), n)
      | None ↦
          elim (pointed email t) [
            | Some n ↦ (to_link (codes "mailto:") (between_ends n t), n)
            | None ↦
                elim (html_tag t) [ Some n ↦ (finished (raw_html (take n t) no_inlines), n) | None ↦ as_textual (codes "<") 1 ]
          ]
    ]

-- a backslash: a break before a line end, and an escape before punctuation
abbrev pub escape_at : List ℕ → Taken
escape_at t = let c = first_byte (drop 1 t) in
    if c == line_feed then (finished (hard_break no_inlines), 2) else if is_punct c then as_textual (c ∷ []) 2 else as_textual (codes "\\") 1

-- `&`: a reference, or text
abbrev pub reference_at : List ℕ → Taken
reference_at t = elim (front_reference t) [ Some r ↦ as_textual (encode_utf8 r.0) r.1 | None ↦ as_textual (codes "&") 1 ]

-- spaces before a line end are not text, and two of them make it a hard break
abbrev pub spaces_at : List ℕ → Taken
spaces_at t =
    let n = run_len (λ c. c == space) t in
    if first_byte (drop n t) == line_feed then (finished (if nat_lt 1 n then hard_break no_inlines else soft_break no_inlines), n + 1) else as_textual (take n t) n

-- text up to the next such byte
abbrev pub textual_at : List ℕ → Taken
textual_at t = let n = suc (run_len (λ c. not (is_special c)) (drop 1 t)) in as_textual (take n t) n

-- the piece at the front of a text, but for `]`; `done` has the bytes before, last first
abbrev pub piece_at : List ℕ → List ℕ → Taken
piece_at done t =
    let c = first_byte t in
    if c == backslash then escape_at t
    else if c == ampersand then reference_at t
    else if c == backtick then code_at t
    else if c == less_than then pointed_at t
    else if (c == star) || (c == underscore) then (let n = run_len (λ d. d == c) t in (run_at c n (char_before done) (char_after (drop n t)), n))
    else if c == left_bracket then (open_bracket false true (drop 1 t), 1)
    else if (c == exclamation_mark) && (first_byte (drop 1 t) == left_bracket) then (open_bracket true true (drop 2 t), 2)
    else if (c == space) || (c == line_feed) then spaces_at t
    else textual_at t
