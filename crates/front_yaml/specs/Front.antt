-- The front matter of a file: the YAML text between a first line `---` and a line that closes it, as in Jekyll 4.
use Rattle.std.specs.Prelude.{◌≤◌, ℕ, ◌+◌, ◌-◌, Bool, false, ◌&&◌, ◌||◌, not, List, [], ◌∷◌, length, drop, take_while, if◌then◌else◌, ◌==◌, slice_index}
use Rattle.std.specs.List.{list_all, concat, prefix_len}
use Rattle.std.specs.Str.{IsUtf8, IsCharBoundary}
use Rattle.site_base.specs.Lines.{lines}
use Rattle.front_yaml.specs.declared.front_matter.Front.{Front}
use Rattle.front_yaml.specs.declared.front_matter.Front.TheVariants.{Page, Open, Plain}

-- a space, a tab, LF or CR
abbrev pub is_white : ℕ → Bool
is_white c = (c == 32) || (c == 9) || (c == 10) || (c == 13)

-- spaces and tabs alone, since LF and CR stand only at a line's end
abbrev pub is_blank : List ℕ → Bool
is_blank line = list_all is_white line

-- white space stands at the front
abbrev pub begins_white : List ℕ → Bool
begins_white [] = false
begins_white (c ∷ cs) = is_white c

-- three times the byte at the front
abbrev pub begins_fence : ℕ → List ℕ → Bool
begins_fence b (x ∷ y ∷ z ∷ rest) = (x == b) && (y == b) && (z == b)
begins_fence b line = false

-- three times the byte, and then spaces and tabs alone
abbrev pub is_fence : ℕ → List ℕ → Bool
is_fence b line = begins_fence b line && is_blank (drop 3 line)

-- a line end stands at its end
abbrev pub is_ended : List ℕ → Bool
is_ended line = let last = slice_index line (length line - 1) in (last == 10) || (last == 13)

-- `---`, as the first line of a file
abbrev pub opens : List ℕ → Bool
opens line = is_fence 45 line && is_ended line

-- `---` or `...`, as a later line
abbrev pub closes : List ℕ → Bool
closes line = is_fence 45 line || is_fence 46 line

-- how many bytes lines have
abbrev pub total : List (List ℕ) → ℕ
total ls = length (concat ls)

abbrev pub stays_open : List ℕ → Bool
stays_open line = not (closes line)

-- the YAML text from `start` to `end`, then these lines: the closing one, and after it and the blank ones the body
abbrev pub closed : ℕ → ℕ → List (List ℕ) → Front
closed start end [] = Open
closed start end (line ∷ after) = Page start end (end + length line + total (take_while is_blank after))

-- front matter whose lines begin at `start`
abbrev pub opened : ℕ → List (List ℕ) → Front
opened start ls = closed start (start + total (take_while stays_open ls)) (drop (prefix_len stays_open ls) ls)

-- a file whose lines begin at this place
abbrev pub front_at : ℕ → List (List ℕ) → Front
front_at at [] = Plain
front_at at (line ∷ after) = if opens line then opened (at + length line) after else Plain

-- the length of a byte-order mark at the front
abbrev pub mark_len : List ℕ → ℕ
mark_len (a ∷ b ∷ c ∷ rest) = if (a == 0xEF) && (b == 0xBB) && (c == 0xBF) then 3 else 0
mark_len bytes = 0

-- where the front matter and the body of a file stand
abbrev pub front : List ℕ → Front
front bytes = front_at (mark_len bytes) (lines (drop (mark_len bytes) bytes))

-- the text may be cut here, if it is UTF-8
abbrev pub IsCut : List ℕ → ℕ → Type 0
IsCut bytes at = IsUtf8 bytes → IsCharBoundary bytes at

-- the three places come in this order within the bytes, and are cuts
pub record AreCuts (bytes : List ℕ) (start end body : ℕ) : Type 0 where
  pub ordered : start ≤ end
  pub before : end ≤ body
  pub within : body ≤ length bytes
  pub start_cut : IsCut bytes start
  pub end_cut : IsCut bytes end
  pub body_cut : IsCut bytes body

-- the places of a page are cuts of its bytes
abbrev pub HasCuts : List ℕ → Front → Type 0
HasCuts bytes (Page start end body) = AreCuts bytes start end body
HasCuts bytes Open = Unit {0}
HasCuts bytes Plain = Unit {0}
