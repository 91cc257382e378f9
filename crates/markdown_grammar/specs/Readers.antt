-- Patterns for the front of a text, in which the standard's rules for tags and links are written: a reader answers how many bytes it takes, or none.
use Rattle.std.specs.Prelude.{Bool, List, None, Option, Some, [], drop, false, if◌then◌else◌, length, nat_le, suc, true, zero, ℕ, ◌+◌, ◌==◌, ◌∷◌}
use Rattle.site_text.specs.Bytes.{is_space, line_feed}
use Rattle.site_text.specs.Fronts.{begins_with, run_len}

-- a pattern: how many bytes it takes at the front of a text, or none
abbrev pub Reader : Type 0
Reader = List ℕ → Option ℕ

-- n bytes more than these
abbrev pub plus : ℕ → Option ℕ → Option ℕ
plus n (Some k) = Some (n + k)
plus n None = None

-- just these bytes
abbrev pub exactly : List ℕ → Reader
exactly w t = if begins_with w t then Some (length w) else None

-- one byte that passes
abbrev pub one_byte : (ℕ → Bool) → Reader
one_byte p [] = None
one_byte p (c ∷ cs) = if p c then Some 1 else None

-- the longest run of bytes that pass, of at least so many
abbrev pub at_least : ℕ → (ℕ → Bool) → Reader
at_least least p t = let n = run_len p t in if nat_le least n then Some n else None

-- one after another
infixr 6 ◌then◌
abbrev pub ◌then◌ : Reader → Reader → Reader
(r then s) t = elim (r t) [ Some k ↦ plus k (s (drop k t)) | None ↦ None ]

-- the first of two that reads
infixr 5 ◌or◌
abbrev pub ◌or◌ : Reader → Reader → Reader
(r or s) t = elim (r t) [ Some k ↦ Some k | None ↦ s t ]

-- what it reads, or nothing taken
abbrev pub perhaps : Reader → Reader
perhaps r t = elim (r t) [ Some k ↦ Some k | None ↦ Some 0 ]

-- as often as it reads
abbrev pub repeat_by : ℕ → Reader → Reader
repeat_by zero r t = Some 0
repeat_by (suc n) r t = elim (r t) [ Some k ↦ plus k (repeat_by n r (drop k t)) | None ↦ Some 0 ]

-- as often as it reads, in the whole text
abbrev pub repeat : Reader → Reader
repeat r t = repeat_by (length t) r t

-- up to and with the first place where the bytes stand
abbrev pub to : List ℕ → Reader
to w [] = None
to w (c ∷ cs) = elim (begins_with w (c ∷ cs)) [ true ↦ Some (length w) | false ↦ plus 1 (to w cs) ]

-- the end of the text, where nothing is taken
abbrev pub at_end : Reader
at_end [] = Some 0
at_end (c ∷ cs) = None

-- a byte that passes stands there, and is not taken
abbrev pub ahead : (ℕ → Bool) → Reader
ahead p [] = None
ahead p (c ∷ cs) = if p c then Some 0 else None

-- any spaces and tabs
abbrev pub spaces : Reader
spaces t = Some (run_len is_space t)

-- spaces, tabs and up to one line end
abbrev pub white_gap : Reader
white_gap = spaces then (perhaps (exactly (line_feed ∷ []) then spaces))

-- the same, and not nothing
abbrev pub some_white_gap : Reader
some_white_gap t = elim (white_gap t) [ Some k ↦ (if k == 0 then None else Some k) | None ↦ None ]

-- how many bytes a reader took, where it may take none
abbrev pub taken : Option ℕ → ℕ
taken (Some k) = k
taken None = 0
