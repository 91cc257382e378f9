-- Parts of the rules for what a line starts, by the text behind its white space.
use Rattle.std.specs.Prelude.{Bool, List, drop, if◌then◌else◌, nat_le, nat_lt, not, take, ℕ, ◌&&◌, ◌+◌, ◌==◌, ◌||◌}
use Rattle.markdown_grammar.specs.Breaks.{count_of}
use Rattle.site_text.specs.Bytes.{backtick, full_stop, hyphen, is_digit, is_space, plus_sign, right_paren, star, tilde, underscore}
use Rattle.site_text.specs.Fronts.{first_byte, has_one, run_len}
use Rattle.markdown_grammar.specs.Lines.{is_blank}
use Rattle.markdown_grammar.specs.ListMarks.{item_if}
use Rattle.markdown_grammar.specs.Places.{Place}
use Rattle.std.specs.Str.Parse.{digits_value}
use Rattle.markdown_grammar.specs.Starts.{Start, text_start}

-- what follows a run at the front
abbrev pub behind_run : (ℕ → Bool) → List ℕ → List ℕ
behind_run p t = drop (run_len p t) t

-- a mark of thematic breaks
abbrev pub is_break_mark : ℕ → Bool
is_break_mark c = (c == star) || ((c == hyphen) || (c == underscore))

-- behind n marks: how many there are, where nothing but marks and white space stands, else 0
abbrev pub marks_in : (n c : ℕ) → List ℕ → ℕ
marks_in n c t = if has_one (λ d. not ((d == c) || is_space d)) t then 0 else n + count_of c t

-- a mark of fences
abbrev pub is_fence_mark : ℕ → Bool
is_fence_mark c = (c == backtick) || (c == tilde)

-- a backtick stands in the info string behind backticks
abbrev pub is_spoilt : ℕ → List ℕ → Bool
is_spoilt c info = (c == backtick) && has_one (λ d. d == backtick) info

-- a line that ends fenced code, by its indent and the text behind it
abbrev pub closes_at : (mark len indent : ℕ) → List ℕ → Bool
closes_at mark len indent t = let n = run_len (λ d. d == mark) t in (nat_lt indent 4 && nat_le len n) && is_blank (drop n t)

-- a bullet
abbrev pub is_bullet_mark : ℕ → Bool
is_bullet_mark c = (c == plus_sign) || ((c == hyphen) || (c == star))

-- what ends the number of an item
abbrev pub is_delimiter_mark : ℕ → Bool
is_delimiter_mark c = (c == full_stop) || (c == right_paren)

-- an item with a number
abbrev pub ordered_at : Place → List ℕ → Start
ordered_at place t =
    let n = run_len is_digit t in
    let d = first_byte (drop n t) in
    if (nat_lt 0 n && nat_lt n 10) && ((d == full_stop) || (d == right_paren)) then item_if place d (digits_value 10 (take n t)) n (drop (n + 1) t) else text_start
