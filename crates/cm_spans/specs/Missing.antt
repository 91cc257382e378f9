-- Ends of raw HTML and of code spans that a text lacks: CommonMark 0.31.2, sections 6.1 and 6.6.
use Rattle.std.specs.Prelude.{◌≡◌, List, None, codes, drop, length, slice_index, ℕ, ◌-◌, ◌<◌, ◌==◌}
use Rattle.site_text.specs.Bytes.{backtick}
use Rattle.site_text.specs.Fronts.{run_len}
use Rattle.markdown_grammar.specs.CodeSpans.{before_run}
use Rattle.markdown_grammar.specs.Readers.{to}
use Rattle.cm_spans.specs.declared.missing_ends.MissingEnds.{MissingEnds}

-- the last n bytes do not hold a word
abbrev pub LacksWord : List ℕ → ℕ → List ℕ → Type 0
LacksWord w n t = to w (drop (length t - n) t) ≡ None

-- no run of just n backticks stands behind the one at the front
abbrev pub LacksNext : ℕ → List ℕ → Type 0
LacksNext n t = before_run n 0 (drop (run_len (λ c. c == backtick) t) t) ≡ None

-- the last bytes, by length as many as are known, hold none
abbrev pub LacksRuns : List ℕ → List ℕ → Type 0
LacksRuns known t = (n : ℕ) → 0 < n → LacksNext n (drop (length t - slice_index known n) t)

pub record Lacks (e : MissingEnds) (t : List ℕ) : Type 0 where
  pub comment : LacksWord (codes "-->") e.comment t
  pub instruction : LacksWord (codes "?>") e.instruction t
  pub declaration : LacksWord (codes ">") e.declaration t
  pub cdata : LacksWord (codes "]]>") e.cdata t
  pub backticks : LacksRuns e.backticks.known.items t
