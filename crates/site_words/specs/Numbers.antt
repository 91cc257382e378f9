-- The numbers of a command line.
use Rattle.std.specs.Prelude.{ℕ, Bool, ◌&&◌, nat_le, nat_lt, List, length, Option, Some, None, if◌then◌else◌}
use Rattle.std.specs.List.{list_all}
use Rattle.std.specs.Char.{is_ascii_digit}
use Rattle.std.specs.Str.Parse.{digits_value, without_leading_plus}

-- one decimal digit or more
abbrev pub is_digits : List ℕ → Bool
is_digits text = list_all is_ascii_digit text && nat_lt 0 (length text)

-- the number that decimal digits write, where it lies from `least` to `most`
abbrev pub digits_in : ℕ → ℕ → List ℕ → Option ℕ
digits_in least most text =
    if is_digits text && (nat_le least (digits_value 10 text) && nat_le (digits_value 10 text) most) then Some (digits_value 10 text) else None

-- the same after an optional `+`
abbrev pub number_in : ℕ → ℕ → List ℕ → Option ℕ
number_in least most text = digits_in least most (without_leading_plus text)
