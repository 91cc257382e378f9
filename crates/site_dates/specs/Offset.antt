-- Offsets from UTC, in seconds, and their texts as in ISO 8601.
use Rattle.std.specs.Prelude.{◌≡◌, ◌≤◌, ℕ, ◌+◌, ◌*◌, ◌%◌, ◌==◌, nat_lt, Bool, ◌&&◌, ◌||◌, List, [], ◌∷◌, codes, ℤ, pos, neg_ℤ, unsigned_abs, Option, Some, None, if◌then◌else◌}
use Rattle.std.specs.Option.{option_map}
use Rattle.std.specs.Str.{bytes_eq}
use Rattle.site_dates.specs.Shape.{has_shape, two_digits_at}

-- less than a day, in whole minutes
abbrev pub IsOffset : ℤ → Type 0
IsOffset z = (unsigned_abs z ≤ 86_340) × (unsigned_abs z % 60 ≡ 0)

-- the seconds of hours and minutes, where a clock shows them
abbrev pub clock_time : ℕ → ℕ → Option ℕ
clock_time hour minute = if nat_lt hour 24 && nat_lt minute 60 then Some (3600 * hour + 60 * minute) else None

-- `HH:MM` or `HHMM`, in seconds
abbrev pub distance : List ℕ → Option ℕ
distance text =
    if has_shape (codes "00:00") text then clock_time (two_digits_at text 0) (two_digits_at text 3)
    else if has_shape (codes "0000") text then clock_time (two_digits_at text 0) (two_digits_at text 2)
    else None

abbrev pub is_utc : List ℕ → Bool
is_utc text = bytes_eq text (codes "UTC") || bytes_eq text (codes "Etc/UTC") || bytes_eq text (codes "Z")

-- a distance to the east with `+`, or to the west with `-`
abbrev pub signed_distance : List ℕ → Option ℤ
signed_distance [] = None
signed_distance (sign ∷ text) =
    if sign == 43 then option_map pos (distance text)
    else if sign == 45 then option_map (λ n. neg_ℤ (pos n)) (distance text)
    else None

-- the offset that a text names
abbrev pub read_offset : List ℕ → Option ℤ
read_offset text = if is_utc text then Some (pos 0) else signed_distance text
