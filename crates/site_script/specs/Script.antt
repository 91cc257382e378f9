-- What the bytes of a session's script say, line by line.
use Rattle.std.specs.Prelude.{◌≡◌, ◌⊎◌, ◌≤◌, ℕ, ◌+◌, ◌++◌, Bool, true, false, not, ◌==◌, nat_lt, List, [], ◌∷◌, length, take, drop, nat_eq, codes, pos, Option, Some, is_some, if◌then◌else◌}
use Rattle.std.specs.Option.{option_map_or}
use Rattle.std.specs.List.{list_any, starts_with, before_first, after_first, before_last, after_last}
use Rattle.std.specs.Io.BufRead.{strip_last}
use Rattle.std.specs.Str.{bytes_eq, is_utf8}
use Rattle.site_base.specs.Limits.{last_moment, most_bytes}
use Rattle.site_base.specs.Path.{path_refusal}
use Rattle.site_script.specs.Line.{line_number}
use Rattle.site_script.specs.Number.{number_up_to}
use Rattle.site_script.specs.declared.head.Head.{Head}
use Rattle.site_script.specs.declared.head.Head.TheVariants as head
use Rattle.site_script.specs.declared.line.Line.{Line}
use Rattle.site_script.specs.declared.line.Line.TheVariants.{Scan, Put, Delete, Time, Build, Links, End, Eof, Bad, Failed, Memory}
use Rattle.site_script.specs.declared.line.ScriptKind.TheVariants.{LongLine, NotText, Unknown, Path, Length, Cut, Seconds}

-- Lines end with LF, and the last may lack its end.

abbrev pub is_lf : ℕ → Bool
is_lf b = b == 10

abbrev pub has_end : List ℕ → Bool
has_end text = list_any is_lf text

-- the first line, without its LF
abbrev pub front_line : List ℕ → List ℕ
front_line text = before_first is_lf text

-- what follows the first line
abbrev pub after_line : List ℕ → List ℕ
after_line text = after_first is_lf text

-- the content of the first line: a CR before its LF is dropped
abbrev pub content : List ℕ → List ℕ
content text = if has_end text then strip_last 13 (front_line text) else front_line text

-- What a line's content says. A put says how many bytes follow it.

abbrev pub is_space : ℕ → Bool
is_space b = b == 32

-- a path, and a length that is at most a file's
abbrev pub put_of : List ℕ → List ℕ → Head
put_of path count = if is_some (path_refusal path) then head.Bad Path
    else option_map_or (λ n. head.Put path n) (number_up_to most_bytes count) (head.Bad Length)

-- what follows `put `: a path, the last space, and a length
abbrev pub put_form : List ℕ → Head
put_form rest = if list_any is_space rest then put_of (before_last is_space rest) (after_last is_space rest) else head.Bad Unknown

-- what follows `delete `
abbrev pub delete_form : List ℕ → Head
delete_form path = if is_some (path_refusal path) then head.Bad Path else head.Delete path

-- what follows `time `: seconds, at most those of the last moment
abbrev pub time_form : List ℕ → Head
time_form seconds = option_map_or (λ n. head.Time (pos n)) (number_up_to last_moment seconds) (head.Bad Seconds)

-- a line of more than one word
abbrev pub long_form : List ℕ → Head
long_form line =
    if starts_with nat_eq line (codes "put ") then put_form (drop 4 line)
    else if starts_with nat_eq line (codes "delete ") then delete_form (drop 7 line)
    else if starts_with nat_eq line (codes "time ") then time_form (drop 5 line)
    else head.Bad Unknown

-- a line that is text
abbrev pub form_of : List ℕ → Head
form_of line =
    if bytes_eq line (codes "scan") then head.Scan
    else if bytes_eq line (codes "build") then head.Build
    else if bytes_eq line (codes "links") then head.Links
    else if bytes_eq line (codes "end") then head.End
    else long_form line

-- the content of any line: at most 2,048 bytes, which are text
abbrev pub head_of : List ℕ → Head
head_of line =
    if nat_lt 2048 (length line) then head.Bad LongLine
    else if not (is_utf8 line) then head.Bad NotText
    else form_of line

-- the line that a head begins, and what is left of the bytes that follow the head
abbrev pub whole_line : ℕ → Head → List ℕ → Line × List ℕ
whole_line number head.Scan rest = (Scan, rest)
whole_line number head.Build rest = (Build, rest)
whole_line number head.Links rest = (Links, rest)
whole_line number head.End rest = (End, rest)
whole_line number (head.Delete path) rest = (Delete path, rest)
whole_line number (head.Time seconds) rest = (Time seconds, rest)
whole_line number (head.Bad kind) rest = (Bad number kind, rest)
whole_line number (head.Put path count) rest = if nat_lt (length rest) count then (Bad number Cut, []) else (Put path (take count rest), drop count rest)

-- the first line of a text, which has this number, and what is left after it
abbrev pub first_line : ℕ → List ℕ → Line × List ℕ
first_line number [] = (Eof, [])
first_line number (b ∷ text) = whole_line number (head_of (content (b ∷ text))) (after_line (b ∷ text))

-- after so many lines, the text begins with these lines, and this is left of it
abbrev pub Taken : ℕ → List ℕ → List Line → List ℕ → Type 0
Taken before text [] left = left ≡ text
Taken before text (line ∷ lines) left = ((first_line (line_number before) text).0 ≡ line)
    × Taken (before + 1) (first_line (line_number before) text).1 lines left

-- the bytes of the line break a rule
abbrev pub is_bad : Line → Bool
is_bad (Bad number kind) = true
is_bad _ = false

-- these bytes of a text were taken, and what follows them is left
pub record HasRead (text bytes : List ℕ) (after : Option (List ℕ)) : Type 0 where
  pub rest : List ℕ
  pub left : after ≡ Some rest
  pub whole : text ≡ bytes ++ rest

-- the body that a head asks for is not whole
abbrev pub lacks_body : Head → List ℕ → Bool
lacks_body (head.Put path count) body = nat_lt (length body) count
lacks_body head.Scan body = false
lacks_body head.Build body = false
lacks_body head.Links body = false
lacks_body head.End body = false
lacks_body (head.Delete path) body = false
lacks_body (head.Time seconds) body = false
lacks_body (head.Bad kind) body = false

-- these bytes hold no whole line: neither an end nor too much for a line, or not all of the body that their line asks for
abbrev pub is_cut_off : List ℕ → Bool
is_cut_off bytes = if has_end bytes then lacks_body (head_of (content bytes)) (after_line bytes) else not (nat_lt 2049 (length bytes))

-- the bytes taken of a text hold no whole line
abbrev pub IsCutOff : List ℕ → Option (List ℕ) → Type 0
IsCutOff text left = (bytes : List ℕ) × HasRead text bytes left × (is_cut_off bytes ≡ true)

-- of a text that ends so, no byte of its end was taken
abbrev pub Spares : List ℕ → List ℕ → Option (List ℕ) → Type 0
Spares end text left = (bytes : List ℕ) × HasRead text bytes left × (length bytes + length end ≤ length text)

-- of a text that begins with this line this line was read, and no byte behind it was taken; a line that is not bad was taken whole
pub record IsFirst (first : Line × List ℕ) (text : List ℕ) (line : Line) (left : Option (List ℕ)) : Type 0 where
  pub is : first.0 ≡ line
  pub whole : is_bad line ≡ false → left ≡ Some first.1
  pub part : is_bad line ≡ true → Spares first.1 text left

-- the same, unless memory was wanting
abbrev pub IsFirstOr : Line × List ℕ → List ℕ → Line → Option (List ℕ) → Type 0
IsFirstOr first text line left = ((line ≡ Memory) × Spares first.1 text left) ⊎ IsFirst first text line left

-- the first line of a text was read, unless memory was wanting, or the input failed before the line was whole
abbrev pub ReadsFirst : ℕ → List ℕ → Line → Option (List ℕ) → Type 0
ReadsFirst number text line left = ((line ≡ Failed) × IsCutOff text left) ⊎ IsFirstOr (first_line number text) text line left

-- if the line is bad, it bears this number
abbrev pub BearsNumber : ℕ → Line → Type 0
BearsNumber number (Bad n kind) = n ≡ number
BearsNumber number _ = Unit {0}
