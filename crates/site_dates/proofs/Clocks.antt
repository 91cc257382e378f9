-- What the kit's date and time of day show at a moment.
use Rattle.std.proofs.Common.{◌≡◌, ℕ, ◌/◌, ◌%◌, sym, refl, arith, ℤ, pos, ◌+ℤ◌, ◌*ℤ◌, unsigned_abs}
use Rattle.std.specs.Int.{int_div_euclid, int_rem_euclid}
use Rattle.jiff_core.specs.declared.civil.datetime.DateTime.{DateTime}
use Rattle.jiff_core.specs.declared.civil.time.Time.{Time}
use Rattle.jiff_core.specs.Date.{epoch_day}
use Rattle.jiff_core.specs.DateTime.{civil_nanos}
use Rattle.jiff_core.specs.Time.{time_seconds}
use Rattle.jiff_core.proofs.SignedLemmas.{signed_arith}
use Rattle.jiff_core.proofs.DateTimeLemmas.{civil_nanos-parts, time_nanos_bound}
use Rattle.site_dates.specs.Days.{civil_day, day_of}
use Rattle.site_dates.specs.Moment.{IsMoment}
use Rattle.site_dates.specs.Offset.{IsOffset}
use Rattle.site_dates.specs.Shown.{shown_by, local_time}
use Rattle.site_dates.proofs.DayCounts.{day_of_is}

-- the clock's hour, minute and second are those of the second of the day
shown_hour : (t : Time) (n : ℕ) → time_seconds t ≡ n → t.hour ≡ n / 3600
shown_hour t n e = omega (arith, t.minute_in, t.second_in)

shown_minute : (t : Time) (n : ℕ) → time_seconds t ≡ n → t.minute ≡ n / 60 % 60
shown_minute t n e = omega (arith, t.minute_in, t.second_in)

shown_second : (t : Time) (n : ℕ) → time_seconds t ≡ n → t.second ≡ n % 60
shown_second t n e = omega (arith, t.second_in)

-- nanoseconds that are whole seconds, in days and seconds
shown_day : (shown : ℤ) (clock : DateTime) → civil_nanos clock ≡ shown *ℤ pos 1_000_000_000 → epoch_day clock.date ≡ int_div_euclid shown (pos 86_400)
shown_day shown clock e =
    omega (arith, signed_arith, civil_nanos-parts clock, time_nanos_bound clock.time)

shown_seconds : (shown : ℤ) (clock : DateTime) → civil_nanos clock ≡ shown *ℤ pos 1_000_000_000 → time_seconds clock.time ≡ unsigned_abs (int_rem_euclid shown (pos 86_400))
shown_seconds shown clock e =
    omega (arith, signed_arith, civil_nanos-parts clock, time_nanos_bound clock.time)

-- no date is shown that lies before the year 1
shown_date : (moment offset : ℤ) (clock : DateTime) → IsMoment moment → IsOffset offset → epoch_day clock.date ≡ int_div_euclid (moment +ℤ offset) (pos 86_400) → civil_day clock.date ≡ day_of (int_div_euclid (moment +ℤ offset) (pos 86_400))
shown_date moment offset clock m o e =
    sym (day_of_is (int_div_euclid (moment +ℤ offset) (pos 86_400)) clock.date e (omega (arith, signed_arith, m, o)))

pub shown : (moment offset : ℤ) (clock : DateTime) → IsMoment moment → IsOffset offset → civil_nanos clock ≡ (moment +ℤ offset) *ℤ pos 1_000_000_000 → shown_by moment offset clock ≡ local_time moment offset
shown moment offset clock m o e =
    let second = shown_seconds (moment +ℤ offset) clock e in
    let date = shown_date moment offset clock m o (shown_day (moment +ℤ offset) clock e) in
    rw (date, shown_hour clock.time _ second, shown_minute clock.time _ second, shown_second clock.time _ second) refl
