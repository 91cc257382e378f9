-- What is taken off at the ends of a code span: CommonMark 0.31.2, section 6.1.
use Rattle.std.specs.Prelude.{Bool, List, length, nat_lt, not, slice_index, ℕ, ◌&&◌, ◌-◌, ◌==◌, ◌||◌}
use Rattle.site_text.specs.Bytes.{line_feed, space}
use Rattle.site_text.specs.Fronts.{has_one}

-- a space, or a line end, which stands for one
abbrev pub is_blank : ℕ → Bool
is_blank c = (c == space) || (c == line_feed)

-- one at both ends, and something else
abbrev pub is_padded : List ℕ → Bool
is_padded t = (nat_lt 2 (length t) && (is_blank (slice_index t 0) && is_blank (slice_index t (length t - 1)))) && has_one (λ c. not (is_blank c)) t
