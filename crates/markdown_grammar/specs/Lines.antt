-- The lines of a text without their ends, and white space at their ends: CommonMark 0.31.2, sections 2.1 and 2.3.
use Rattle.std.specs.Prelude.{Bool, List, [], drop, if◌then◌else◌, map, not, reverse, take, ℕ, ◌++◌, ◌==◌, ◌||◌, ◌∷◌}
use Rattle.site_base.specs.Lines.{lines}
use Rattle.site_text.specs.Bytes.{carriage_return, is_space, line_feed}
use Rattle.site_text.specs.Fronts.{run_len}
use Rattle.markdown_grammar.specs.Fronts.{is_empty}

-- without spaces and tabs in front
abbrev pub trim_front : List ℕ → List ℕ
trim_front t = drop (run_len is_space t) t

-- without spaces and tabs at both ends
abbrev pub trim : List ℕ → List ℕ
trim t = reverse (trim_front (reverse (trim_front t)))

-- spaces and tabs alone
abbrev pub is_blank : List ℕ → Bool
is_blank t = is_empty (trim_front t)

-- 2.3: U+0000 is taken as U+FFFD, for security
abbrev pub nul_replaced : List ℕ → List ℕ
nul_replaced [] = []
nul_replaced (c ∷ cs) = (if c == 0 then 239 ∷ 191 ∷ 189 ∷ [] else c ∷ []) ++ nul_replaced cs

-- 2.1: the lines without their ends, which are LF, CR LF and CR
abbrev pub is_line_end : ℕ → Bool
is_line_end c = (c == line_feed) || (c == carriage_return)

-- a line without its end
abbrev pub without_end : List ℕ → List ℕ
without_end line = take (run_len (λ c. not (is_line_end c)) line) line

-- the lines of a text, without their ends
abbrev pub text_lines : List ℕ → List (List ℕ)
text_lines t = map without_end (lines t)

-- lines with a line end between them
abbrev pub joined_lines : List (List ℕ) → List ℕ
joined_lines [] = []
joined_lines (l ∷ []) = l
joined_lines (l ∷ m ∷ ls) = l ++ line_feed ∷ joined_lines (m ∷ ls)

-- lines with a line end after each
abbrev pub ended_lines : List (List ℕ) → List ℕ
ended_lines [] = []
ended_lines (l ∷ ls) = l ++ line_feed ∷ ended_lines ls
