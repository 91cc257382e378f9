-- Code spans: CommonMark 0.31.2, section 6.1.
use Rattle.std.specs.Prelude.{List, None, Some, [], drop, false, if◌then◌else◌, length, not, reverse, suc, take, true, ℕ, ◌&&◌, ◌+◌, ◌-◌, ◌==◌, ◌∷◌}
use Rattle.site_text.specs.Bytes.{backtick, line_feed, space}
use Rattle.site_text.specs.Fronts.{first_byte, has_one, run_len}
use Rattle.markdown_grammar.specs.Inlines.{code_span, no_inlines, textual}
use Rattle.markdown_grammar.specs.Pieces.{Piece, finished}
use Rattle.markdown_grammar.specs.Readers.{Reader, plus}

-- a piece, and how many bytes it takes
abbrev pub Taken : Type 0
Taken = Piece × ℕ

-- n bytes that are text
abbrev pub as_textual : List ℕ → ℕ → Taken
as_textual b n = (finished (textual b no_inlines), n)

-- how many bytes stand up to and with the next run of just n backticks, where so many of them stand right before; none where there is no such run
abbrev pub before_run : ℕ → ℕ → Reader
before_run n current [] = if n == current then Some 0 else None
before_run n current (c ∷ cs) = elim (c == backtick) [
  | true ↦ plus 1 (before_run n (suc current) cs)
  | false ↦ elim (n == current) [ true ↦ Some 0 | false ↦ plus 1 (before_run n 0 cs) ]
]

-- line ends are spaces, and one space is taken off at both ends where the span is not all spaces
abbrev pub spaced : List ℕ → List ℕ
spaced [] = []
spaced (c ∷ cs) = (if c == line_feed then space else c) ∷ spaced cs

-- the text of a span, from what stands between the backticks
abbrev pub span_text : List ℕ → List ℕ
span_text t = let u = spaced t in
    if ((first_byte u == space) && (first_byte (reverse u) == space)) && has_one (λ c. not (c == space)) u then take (length u - 2) (drop 1 u) else u

-- a run of backticks: a span up to the next run of just that length, else text
abbrev pub code_at : List ℕ → Taken
code_at t =
    let n = run_len (λ c. c == backtick) t in
    elim (before_run n 0 (drop n t)) [ Some k ↦ (finished (code_span (span_text (take (k - n) (drop n t))) no_inlines), n + k) | None ↦ as_textual (take n t) n ]
