-- Days of the calendar, which is that of the kit's `jiff_core`: the Gregorian one, as ISO 8601 extends it to every year.
use Rattle.std.specs.Prelude.{ℕ, zero, suc, ◌+◌, nat_le, nat_lt, Bool, ◌&&◌, if◌then◌else◌, ℤ, pos, ◌+ℤ◌, ◌-ℤ◌, unsigned_abs, Option, Some, None}
use Rattle.jiff_core.specs.declared.civil.date.Date.{Date}
use Rattle.jiff_core.specs.Calendar.{days_in_month, days_from_civil}

-- a day, by three numbers
pub record CivilDay : Type 0 where
  pub year : ℤ
  pub month : ℕ
  pub day : ℕ

abbrev pub ymd : ℤ → ℕ → ℕ → CivilDay
ymd year month day = record { year = year; month = month; day = day }

-- the day that a date of the kit is
abbrev pub civil_day : Date → CivilDay
civil_day date = ymd date.year date.month date.day

-- the calendar has this day, in a year of at most four digits
abbrev pub is_day : CivilDay → Bool
is_day d =
    nat_le (unsigned_abs d.year) 9999 && nat_le 1 d.month && nat_le d.month 12
    && nat_le 1 d.day && nat_le d.day (days_in_month d.year d.month)

-- days from 1 January 1970
abbrev pub day_number : CivilDay → ℤ
day_number d = days_from_civil d.year d.month d.day

-- the number of a day that the calendar has
abbrev pub if_day : CivilDay → Option ℤ
if_day d = if is_day d then Some (day_number d) else None

-- the next day
abbrev pub day_after : CivilDay → CivilDay
day_after d =
    if nat_lt d.day (days_in_month d.year d.month) then ymd d.year d.month (d.day + 1)
    else if nat_lt d.month 12 then ymd d.year (d.month + 1) 1
    else ymd (d.year +ℤ pos 1) 1 1

abbrev pub first_day : CivilDay
first_day = ymd (pos 1) 1 1

-- the day so many days after 1 January of the year 1
unfoldable pub day_at : ℕ → CivilDay
day_at zero = first_day
day_at (suc n) = day_after (day_at n)

-- the day with this number, from that one on
abbrev pub day_of : ℤ → CivilDay
day_of number = day_at (unsigned_abs (number -ℤ day_number first_day))
