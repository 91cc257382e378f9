-- Texts of a fixed shape, as dates and clocks have one.
use Rattle.std.specs.Prelude.{ℕ, ◌+◌, ◌-◌, ◌*◌, ◌==◌, Bool, true, false, ◌&&◌, List, [], ◌∷◌, length, slice_index, if◌then◌else◌}
use Rattle.std.specs.Char.{is_ascii_digit}

-- in a shape `0` stands for any digit, and every other byte for itself
abbrev pub fits : ℕ → ℕ → Bool
fits mark b = if mark == 48 then is_ascii_digit b else b == mark

abbrev pub begins : List ℕ → List ℕ → Bool
begins [] text = true
begins (mark ∷ shape) [] = false
begins (mark ∷ shape) (b ∷ text) = fits mark b && begins shape text

abbrev pub has_shape : List ℕ → List ℕ → Bool
has_shape shape text = begins shape text && (length text == length shape)

-- the number that the two digits at this place write
abbrev pub two_digits_at : List ℕ → ℕ → ℕ
two_digits_at text at = 10 * (slice_index text at - 48) + (slice_index text (at + 1) - 48)
