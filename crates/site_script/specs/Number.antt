-- The numbers of a script.
use Rattle.std.specs.Prelude.{ℕ, Bool, not, ◌==◌, ◌&&◌, ◌||◌, nat_le, List, length, slice_index, Option, Some, None, if◌then◌else◌}
use Rattle.std.specs.List.{list_all}
use Rattle.std.specs.Char.{is_ascii_digit}
use Rattle.std.specs.Str.Parse.{digits_value}

-- one decimal digit or more, with no leading `0` where more follow
abbrev pub is_number : List ℕ → Bool
is_number text = list_all is_ascii_digit text && (not (length text == 0) && (not (slice_index text 0 == 48) || (length text == 1)))

-- the number that a text writes, where it writes one and that is at most `most`
abbrev pub number_up_to : ℕ → List ℕ → Option ℕ
number_up_to most text = if is_number text && nat_le (digits_value 10 text) most then Some (digits_value 10 text) else None
