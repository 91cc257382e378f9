-- The marks of list items: CommonMark 0.31.2, section 5.2.
use Rattle.std.specs.Prelude.{Bool, List, drop, if◌then◌else◌, nat_lt, not, take, true, ℕ, ◌&&◌, ◌+◌, ◌==◌, ◌||◌}
use Rattle.site_text.specs.Bytes.{full_stop, hyphen, is_digit, is_space, plus_sign, right_paren, star}
use Rattle.site_text.specs.Fronts.{first_byte, run_len}
use Rattle.markdown_grammar.specs.Fronts.{is_empty}
use Rattle.markdown_grammar.specs.Lines.{is_blank}
use Rattle.markdown_grammar.specs.Places.{Place, beside_paragraph, in_paragraph, not_in_paragraph}
use Rattle.std.specs.Str.Parse.{digits_value}
use Rattle.markdown_grammar.specs.Starts.{Start, item_start, text_start}

-- in a paragraph, only an item that is not empty, and starts with 1 if it is ordered
abbrev pub may_interrupt : Place → Bool → ℕ → Bool
may_interrupt not_in_paragraph is_void number = true
may_interrupt beside_paragraph is_void number = true
may_interrupt (in_paragraph b) is_void number = not is_void && (number == 1)

-- an item's mark, before white space or the line's end
abbrev pub item_if : Place → ℕ → ℕ → ℕ → List ℕ → Start
item_if place kind number digits after =
    if (is_empty after || is_space (first_byte after)) && may_interrupt place (is_blank after) number then item_start kind number digits else text_start

-- `+`, `-` or `*`, which count as 1; or one to nine digits with `.` or `)`
abbrev pub item_at : Place → List ℕ → Start
item_at place t =
    let c = first_byte t in
    let n = run_len is_digit t in
    let d = first_byte (drop n t) in
    if (c == plus_sign) || ((c == hyphen) || (c == star)) then item_if place c 1 0 (drop 1 t)
    else if ((nat_lt 0 n && nat_lt n 10) && ((d == full_stop) || (d == right_paren))) then item_if place d (digits_value 10 (take n t)) n (drop (n + 1) t)
    else text_start
