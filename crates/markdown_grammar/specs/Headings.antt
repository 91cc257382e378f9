-- Headings: CommonMark 0.31.2, sections 4.2 and 4.3.
use Rattle.std.specs.Prelude.{Bool, List, drop, false, if◌then◌else◌, nat_lt, reverse, true, ℕ, ◌&&◌, ◌==◌, ◌||◌}
use Rattle.site_text.specs.Bytes.{equals_sign, hyphen, is_space, number_sign}
use Rattle.site_text.specs.Fronts.{first_byte, run_len}
use Rattle.markdown_grammar.specs.Fronts.{is_empty}
use Rattle.markdown_grammar.specs.Lines.{is_blank, trim}
use Rattle.markdown_grammar.specs.Places.{Place, beside_paragraph, in_paragraph, not_in_paragraph}
use Rattle.markdown_grammar.specs.Starts.{Start, atx_start, text_start, underline_start}

-- 4.2: a closing run of `#` behind a space is left out; the text is handed in last byte first
abbrev pub without_closing : List ℕ → List ℕ
without_closing r =
    let k = run_len (λ c. c == number_sign) r in
    if is_empty (drop k r) || is_space (first_byte (drop k r)) then trim (reverse (drop k r)) else reverse r

-- 4.2: one to six `#`, and then white space or the line's end
abbrev pub atx_at : List ℕ → Start
atx_at t =
    let n = run_len (λ c. c == number_sign) t in
    if (nat_lt 0 n && nat_lt n 7) && (is_empty (drop n t) || is_space (first_byte (drop n t))) then atx_start n (without_closing (reverse (trim (drop n t)))) else text_start

-- 4.3: a line of one mark alone
abbrev pub underline_of : ℕ → List ℕ → Bool
underline_of c t = let n = run_len (λ d. d == c) t in nat_lt 0 n && is_blank (drop n t)

-- 4.3: an underline, after a paragraph that has text
abbrev pub underline_at : Place → List ℕ → Start
underline_at (in_paragraph true) t = if underline_of equals_sign t then underline_start 1 else if underline_of hyphen t then underline_start 2 else text_start
underline_at (in_paragraph false) t = text_start
underline_at not_in_paragraph t = text_start
underline_at beside_paragraph t = text_start
