-- Moments, in seconds from the beginning of 1970 in UTC, and the texts that name them, dates and clocks as in ISO 8601.
use Rattle.std.specs.Prelude.{◌≤ℤ◌, ℕ, ◌+◌, ◌*◌, ◌==◌, nat_lt, nat_le, Bool, ◌&&◌, ◌||◌, List, [], ◌∷◌, drop, codes, ℤ, pos, negsuc, neg_ℤ, ◌+ℤ◌, ◌-ℤ◌, ◌*ℤ◌, unsigned_abs, Option, Some, None, option_and_then, if◌then◌else◌}
use Rattle.site_base.specs.Limits.{last_moment}
use Rattle.site_dates.specs.declared.moment.Clock.{Clock}
use Rattle.site_dates.specs.Days.{CivilDay, ymd, if_day}
use Rattle.site_dates.specs.Shape.{begins, two_digits_at}
use Rattle.site_dates.specs.Offset.{clock_time, read_offset}

-- the first that has a date in the years 1 to 9999 at every offset
abbrev pub first_moment : ℤ
first_moment = neg_ℤ (pos 62_135_510_400)

abbrev pub IsMoment : ℤ → Type 0
IsMoment z = (first_moment ≤ℤ z) × (z ≤ℤ pos last_moment)

-- the same as a test
abbrev pub is_moment : ℤ → Bool
is_moment (pos n) = nat_le n last_moment
is_moment (negsuc n) = nat_lt n (unsigned_abs first_moment)

-- the day that `YYYY-MM-DD` writes
abbrev pub written_day : List ℕ → CivilDay
written_day text = ymd (pos (100 * two_digits_at text 0 + two_digits_at text 2)) (two_digits_at text 5) (two_digits_at text 8)

-- its number, where the calendar has it
abbrev pub written_number : List ℕ → Option ℤ
written_number text = if begins (codes "0000-00-00") text then if_day (written_day text) else None

-- `HH:MM` behind a space or `T`, in seconds
abbrev pub time_of_day : List ℕ → Option ℕ
time_of_day text =
    if begins (codes " 00:00") text || begins (codes "T00:00") text
    then clock_time (two_digits_at text 1) (two_digits_at text 4) else None

-- this time, and the seconds that `:SS` adds to it
abbrev pub with_seconds : ℕ → List ℕ → Clock
with_seconds time text =
    if begins (codes ":00") text && nat_lt (two_digits_at text 1) 60
    then record { seconds = time + two_digits_at text 1; len = 9 }
    else record { seconds = time; len = 6 }

-- midnight where no time stands
abbrev pub clock_of : Option ℕ → List ℕ → Clock
clock_of None text = record { seconds = 0; len = 0 }
clock_of (Some time) text = with_seconds time (drop 6 text)

-- the time of day at the front of a text, and how many bytes write it
abbrev pub written_clock : List ℕ → Clock
written_clock text = clock_of (time_of_day text) text

-- the offset that is the rest of a text, behind at most one space; where nothing is left, the given one
abbrev pub written_zone : ℤ → List ℕ → Option ℤ
written_zone given [] = Some given
written_zone given (b ∷ text) = read_offset (if b == 32 then text else b ∷ text)

-- the moment of a second of the day with this number, as clocks at this offset show it
abbrev pub moment_at : ℤ → ℕ → ℤ → ℤ
moment_at day second offset = day *ℤ pos 86_400 +ℤ pos second -ℤ offset

abbrev pub if_moment : ℤ → Option ℤ
if_moment z = if is_moment z then Some z else None

-- a day's time and its offset
abbrev pub moment_of : ℤ → ℤ → Clock → List ℕ → Option ℤ
moment_of day given time text =
    option_and_then (λ offset. if_moment (moment_at day time.seconds offset)) (written_zone given (drop time.len text))

-- the moment that a text names, where clocks show the given offset
abbrev pub read_moment : List ℕ → ℤ → Option ℤ
read_moment text given =
    option_and_then (λ day. moment_of day given (written_clock (drop 10 text)) (drop 10 text)) (written_number text)
