-- What calendars and clocks at an offset show at a moment.
use Rattle.std.specs.Prelude.{ℕ, ◌+◌, ◌/◌, ◌%◌, ℤ, pos, ◌+ℤ◌, unsigned_abs}
use Rattle.std.specs.Int.{int_div_euclid, int_rem_euclid}
use Rattle.jiff_core.specs.declared.civil.datetime.DateTime.{DateTime}
use Rattle.jiff_core.specs.Calendar.{day_of_year, weekday_number}
use Rattle.site_dates.specs.Days.{CivilDay, civil_day, day_number, day_of}

-- a moment in seconds from 1970 in UTC, an offset in seconds, and what is shown
pub record Shown : Type 0 where
  pub moment : ℤ
  pub offset : ℤ
  pub date : CivilDay
  pub hour : ℕ
  pub minute : ℕ
  pub second : ℕ

-- on the calendar and the clock of the kit
abbrev pub shown_by : ℤ → ℤ → DateTime → Shown
shown_by moment offset clock = record {
  moment = moment;
  offset = offset;
  date = civil_day clock.date;
  hour = clock.time.hour;
  minute = clock.time.minute;
  second = clock.time.second;
}

-- at a second of this day
abbrev pub shown_on : ℤ → ℤ → CivilDay → ℕ → Shown
shown_on moment offset date second = record {
  moment = moment;
  offset = offset;
  date = date;
  hour = second / 3600;
  minute = second / 60 % 60;
  second = second % 60;
}

-- a day has 86,400 seconds
abbrev pub local_time : ℤ → ℤ → Shown
local_time moment offset =
    shown_on moment offset (day_of (int_div_euclid (moment +ℤ offset) (pos 86_400))) (unsigned_abs (int_rem_euclid (moment +ℤ offset) (pos 86_400)))

-- the hour on a clock of twelve hours
abbrev pub half_hour : Shown → ℕ
half_hour t = (t.hour + 11) % 12 + 1

-- the day of the week, from 0 for Monday
abbrev pub weekday : Shown → ℕ
weekday t = weekday_number (day_number t.date)

-- the day's place in its year, from 1
abbrev pub year_day : Shown → ℕ
year_day t = day_of_year t.date.year t.date.month t.date.day
