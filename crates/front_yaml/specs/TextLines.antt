-- The lines of a text, and what a line carries: YAML 1.2.2, sections 5.4, 6.1 and 6.6.
use Rattle.std.specs.Prelude.{ℕ, suc, ◌+◌, ◌==◌, Bool, ◌||◌, not, List, [], ◌∷◌, ◌++◌, take, take_while, drop, if◌then◌else◌, Ok, Err}
use Rattle.std.specs.List.{prefix_len}
use Rattle.site_base.specs.Lines.{lines}
use Rattle.front_yaml.specs.Reading.{Reading}
use Rattle.front_yaml.specs.Bytes.{starts, is_empty, white_len, repeated}

-- a line: its number, and its text without the line end
pub record Line : Type 0 where
  pub number : ℕ
  pub text : List ℕ

-- LF, CR LF and CR end a line
abbrev pub is_inside : ℕ → Bool
is_inside c = not ((c == 10) || (c == 13))

abbrev pub without_end : List ℕ → List ℕ
without_end = take_while is_inside

abbrev pub line_of : ℕ → List ℕ → Line
line_of n t = record { number = n; text = without_end t }

abbrev pub numbered : ℕ → List (List ℕ) → List Line
numbered n [] = []
numbered n (t ∷ ts) = line_of n t ∷ numbered (suc n) ts

-- the lines of a text, numbered from 1
abbrev pub text_lines : List ℕ → List Line
text_lines s = numbered 1 (lines s)

-- the text of lines, each with its end
abbrev pub stream : List Line → List ℕ
stream [] = []
stream (l ∷ ls) = l.text ++ (10 ∷ stream ls)

abbrev pub spaces : List ℕ → ℕ
spaces = prefix_len (λ c. c == 32)

abbrev pub indent : Line → ℕ
indent l = spaces l.text

abbrev pub inside : Line → List ℕ
inside l = drop (indent l) l.text

abbrev pub is_blank : Line → Bool
is_blank l = is_empty (drop (white_len (inside l)) (inside l))

abbrev pub is_comment : Line → Bool
is_comment l = starts 35 (inside l)

-- the line from a place inside it on, with spaces before
abbrev pub from_place : ℕ → Line → Line
from_place k l = record { number = l.number; text = repeated (indent l + k) 32 ++ drop k (inside l) }

-- blank lines and comments carry nothing
abbrev pub carries : Line → Bool
carries l = not (is_blank l || is_comment l)

abbrev pub has_tab : Line → Bool
has_tab l = starts 9 (inside l)

-- the longest front of lines that pass, and the others
abbrev pub span : (Line → Bool) → List Line → List Line × List Line
span p ls = (take_while p ls, drop (prefix_len p ls) ls)

abbrev pub line_ends : List ℕ → ℕ
line_ends [] = 0
line_ends (c ∷ cs) = if c == 10 then suc (line_ends cs) else line_ends cs

-- a reading of the text from a line on, told by lines
abbrev pub by_lines : {A : Type 0} → Line → List ℕ → Reading A → Reading A
by_lines l text (Ok x) = Ok x
by_lines l text (Err f) = Err (l.number + line_ends (take f.0 text), f.1)
