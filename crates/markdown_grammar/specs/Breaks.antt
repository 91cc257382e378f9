-- Thematic breaks: CommonMark 0.31.2, section 4.1.
use Rattle.std.specs.Prelude.{List, [], if◌then◌else◌, nat_lt, not, ℕ, ◌&&◌, ◌+◌, ◌==◌, ◌||◌, ◌∷◌}
use Rattle.site_text.specs.Bytes.{hyphen, is_space, star, underscore}
use Rattle.site_text.specs.Fronts.{first_byte, has_one}
use Rattle.markdown_grammar.specs.Starts.{Start, break_start, text_start}

-- how often a byte stands in a text
abbrev pub count_of : ℕ → List ℕ → ℕ
count_of c [] = 0
count_of c (d ∷ ds) = (if c == d then 1 else 0) + count_of c ds

-- three or more of one mark, and white space alone between them
abbrev pub break_at : List ℕ → Start
break_at t =
    let c = first_byte t in
    if (((c == star) || ((c == hyphen) || (c == underscore))) && nat_lt 2 (count_of c t)) && not (has_one (λ d. not ((d == c) || is_space d)) t) then break_start else text_start
