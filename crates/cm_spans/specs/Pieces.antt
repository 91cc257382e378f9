-- What a span stands for, as a piece of inlines: CommonMark 0.31.2, section 6.
use Rattle.std.specs.Char.{encode_utf8}
use Rattle.std.specs.Prelude.{List, None, Some, [], codes, drop, false, if◌then◌else◌, take, true, ℕ, ◌&&◌, ◌==◌, ◌||◌}
use Rattle.markdown_grammar.specs.CodeSpans as grammar
use Rattle.markdown_grammar.specs.Inlines.{code_span, hard_break, no_inlines, raw_html, soft_break, textual}
use Rattle.markdown_grammar.specs.Pieces.{Piece, delimiter_run, finished, open_bracket, run_at}
use Rattle.markdown_grammar.specs.Autolinks.{email, pointed}
use Rattle.site_text.specs.Bytes.{exclamation_mark, left_bracket, line_feed, space, star, underscore}
use Rattle.site_text.specs.Fronts.{first_byte, run_len}
use Rattle.markdown_grammar.specs.Flanking.{char_after, char_before}
use Rattle.markdown_grammar.specs.Spans.{between_ends, spaces_at, textual_at, to_link}
use Rattle.markdown_grammar.specs.Tags.{html_tag}
use Rattle.cm_spans.specs.declared.flanking.Mark.{Mark}
use Rattle.cm_spans.specs.declared.flanking.Mark.TheVariants.{Star, Underscore}
use Rattle.cm_spans.specs.declared.flanking.Marks.{Marks}
use Rattle.cm_spans.specs.declared.spans.Span.{Span}
use Rattle.cm_spans.specs.declared.spans.Taken.{Taken}
use Rattle.cm_spans.specs.declared.spans.Span.TheVariants as span

-- the byte of a mark
abbrev pub mark_byte : Mark → ℕ
mark_byte Star = star
mark_byte Underscore = underscore

abbrev pub run_of : Marks → Piece
run_of m = delimiter_run (mark_byte m.mark) m.len m.len m.opens m.closes

-- a span at the front of a text
abbrev pub piece_of : Span → List ℕ → Piece
piece_of (span.Text s) t = finished (textual s.now no_inlines)
piece_of (span.Character c) t = finished (textual (encode_utf8 c) no_inlines)
piece_of span.SoftBreak t = finished (soft_break no_inlines)
piece_of span.HardBreak t = finished (hard_break no_inlines)
piece_of (span.Code s) t = finished (code_span (grammar.spaced s.now) no_inlines)
piece_of (span.Html s) t = finished (raw_html s.now no_inlines)
piece_of (span.Uri s) t = to_link [] s.now
piece_of (span.Email s) t = to_link (codes "mailto:") s.now
piece_of (span.Run m) t = run_of m
piece_of span.Bracket t = open_bracket false true (drop 1 t)
piece_of span.ImageBracket t = open_bracket true true (drop 2 t)

abbrev pub taken_of : Taken → List ℕ → grammar.Taken
taken_of found t = (piece_of found.span t, found.len)

-- ---- parts of the rule for the piece at the front of a text

-- `<` that begins no autolink with a scheme, and neither of the two
abbrev pub html_or_text : List ℕ → grammar.Taken
html_or_text t = elim (html_tag t) [ Some n ↦ (finished (raw_html (take n t) no_inlines), n) | None ↦ grammar.as_textual (codes "<") 1 ]

abbrev pub email_or_html : List ℕ → grammar.Taken
email_or_html t = elim (pointed email t) [ Some n ↦ (to_link (codes "mailto:") (between_ends n t), n) | None ↦ html_or_text t ]

-- a run of a mark
abbrev pub marks_at : ℕ → List ℕ → List ℕ → grammar.Taken
marks_at c done t = let n = run_len (λ d. d == c) t in (run_at c n (char_before done) (char_after (drop n t)), n)

-- brackets, white space and text
abbrev pub bracket_or_text : List ℕ → grammar.Taken
bracket_or_text t =
    let c = first_byte t in
    if c == left_bracket then (open_bracket false true (drop 1 t), 1)
    else if (c == exclamation_mark) && (first_byte (drop 1 t) == left_bracket) then (open_bracket true true (drop 2 t), 2)
    else if (c == space) || (c == line_feed) then spaces_at t
    else textual_at t
