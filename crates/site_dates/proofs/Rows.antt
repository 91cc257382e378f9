-- Worked rows: days of the calendar, texts read, and moments written.
use Rattle.std.proofs.Common.{◌≡◌, ◌∙◌, ap, ℕ, ℤ, true, false, List, codes, refl, rules, ◌≤ℤ◌, ◌+ℤ◌, unsigned_abs}
use Rattle.std.specs.Prelude.{Some, None, pos, negsuc, neg_ℤ}
use Rattle.std.specs.Fmt.{digits}
use Rattle.std.specs.Int.{int_div_euclid, int_rem_euclid}
use Rattle.std.specs.List.{slice_split}
use Rattle.jiff_core.specs.declared.civil.date.Date.{Date}
use Rattle.jiff_core.specs.Date.{epoch_day}
use Rattle.jiff_core.specs.Calendar.{days_of_years, days_of_months, day_count, days_from_civil, day_of_year, weekday_number}
use Rattle.site_dates.specs.Days.{ymd, civil_day, is_day, day_number, day_of}
use Rattle.site_dates.specs.Offset.{read_offset}
use Rattle.site_dates.specs.Moment.{read_moment}
use Rattle.site_dates.specs.Format.{format_moment, pattern_text, is_percent}
use Rattle.site_dates.specs.Shown.{shown_on}
use Rattle.site_dates.proofs.DayCounts.{day_of_is}

-- 1 January 1970, a Thursday
epoch : day_number (ymd (pos 1970) 1 1) ≡ pos 0
unfolding days_from_civil day_count days_of_years days_of_months
epoch = refl

epoch_back : day_of (pos 0) ≡ ymd (pos 1970) 1 1
unfolding days_from_civil day_count days_of_years days_of_months
epoch_back =
    day_of_is (pos 0) (record { year = pos 1970; month = 1; day = 1; year_in = search rules; month_in = search rules; day_in = search rules }) refl (search rules)

thursday : weekday_number (pos 0) ≡ 3
unfolding weekday_number
thursday = refl

leap_2000 : is_day (ymd (pos 2000) 2 29) ≡ true
leap_2000 = refl

common_2100 : is_day (ymd (pos 2100) 2 29) ≡ false
common_2100 = refl

leap_day : day_of (pos 19782) ≡ ymd (pos 2024) 2 29
unfolding days_from_civil day_count days_of_years days_of_months
leap_day =
    day_of_is (pos 19782) (record { year = pos 2024; month = 2; day = 29; year_in = search rules; month_in = search rules; day_in = search rules }) refl (search rules)

last_of_leap_year : day_of_year (pos 2024) 12 31 ≡ 366
unfolding days_of_months
last_of_leap_year = refl

-- the number of the day before 1 January 2024
year_end : day_of (pos 19722) ≡ ymd (pos 2023) 12 31
unfolding days_from_civil day_count days_of_years days_of_months
year_end =
    day_of_is (pos 19722) (record { year = pos 2023; month = 12; day = 31; year_in = search rules; month_in = search rules; day_in = search rules }) refl (search rules)

first : day_of (negsuc 719161) ≡ ymd (pos 1) 1 1
unfolding days_from_civil day_count days_of_years days_of_months
first =
    day_of_is (negsuc 719161) (record { year = pos 1; month = 1; day = 1; year_in = search rules; month_in = search rules; day_in = search rules }) refl (search rules)

last : day_of (pos 2932896) ≡ ymd (pos 9999) 12 31
unfolding days_from_civil day_count days_of_years days_of_months
last =
    day_of_is (pos 2932896) (record { year = pos 9999; month = 12; day = 31; year_in = search rules; month_in = search rules; day_in = search rules }) refl (search rules)

east : read_offset (codes "+02:00") ≡ Some (pos 7200)
east = refl

west : read_offset (codes "-2359") ≡ Some (negsuc 86339)
west = refl

too_far : read_offset (codes "+24:00") ≡ None
too_far = refl

new_year : read_moment (codes "2024-01-01") (pos 0) ≡ Some (pos 1704067200)
unfolding days_from_civil day_count days_of_years days_of_months
new_year = refl

across_midnight : read_moment (codes "2023-12-31T23:59:59 -0100") (pos 0) ≡ Some (pos 1704070799)
unfolding days_from_civil day_count days_of_years days_of_months
across_midnight = refl

first_moment : read_moment (codes "0001-01-01 00:01 -23:59") (pos 0) ≡ Some (negsuc 62135510399)
unfolding days_from_civil day_count days_of_years days_of_months
first_moment = refl

last_moment : read_moment (codes "9999-12-31 23:58:59") (pos 86340) ≡ Some (pos 253402214399)
unfolding days_from_civil day_count days_of_years days_of_months
last_moment = refl

before_the_first : read_moment (codes "0001-01-01") (pos 0) ≡ None
unfolding days_from_civil day_count days_of_years days_of_months
before_the_first = refl

hour_24 : read_moment (codes "2024-01-01 24:00") (pos 0) ≡ None
unfolding days_from_civil day_count days_of_years days_of_months
hour_24 = refl

two_spaces : read_moment (codes "2024-01-01  UTC") (pos 0) ≡ None
unfolding days_from_civil day_count days_of_years days_of_months
two_spaces = refl

-- a moment is written on the day with its number
on_day : (moment offset : ℤ) (pattern : List ℕ) (d : Date) → epoch_day d ≡ int_div_euclid (moment +ℤ offset) (pos 86400) → neg_ℤ (pos 719162) ≤ℤ int_div_euclid (moment +ℤ offset) (pos 86400) → format_moment moment offset pattern ≡ pattern_text (shown_on moment offset (civil_day d) (unsigned_abs (int_rem_euclid (moment +ℤ offset) (pos 86400)))) (slice_split is_percent pattern)
on_day moment offset pattern d e low =
    ap (λ date. pattern_text (shown_on moment offset date (unsigned_abs (int_rem_euclid (moment +ℤ offset) (pos 86400)))) (slice_split is_percent pattern)) (day_of_is (int_div_euclid (moment +ℤ offset) (pos 86400)) d e low)

at_offset : format_moment (pos 1704067200) (pos 7200) (codes "%Y-%m-%d %H:%M %z") ≡ Some (codes "2024-01-01 02:00 +0200")
unfolding days_from_civil day_count days_of_years days_of_months
at_offset =
    on_day (pos 1704067200) (pos 7200) (codes "%Y-%m-%d %H:%M %z") (record { year = pos 2024; month = 1; day = 1; year_in = search rules; month_in = search rules; day_in = search rules }) refl (search rules) ∙ refl

names_and_places : format_moment (pos 1735689599) (negsuc 19799) (codes "%a, %-d %B %e %j %-I%p %:z %s %%F%%%T") ≡ Some (codes "Tue, 31 December 31 366 6PM -05:30 1735689599 %F%18:29:59")
unfolding days_from_civil day_count days_of_years days_of_months weekday_number digits
names_and_places =
    on_day (pos 1735689599) (negsuc 19799) (codes "%a, %-d %B %e %j %-I%p %:z %s %%F%%%T") (record { year = pos 2024; month = 12; day = 31; year_in = search rules; month_in = search rules; day_in = search rules }) refl (search rules) ∙ refl

unknown : format_moment (pos 0) (pos 0) (codes "%Q") ≡ None
unknown = refl

no_letter : format_moment (pos 0) (pos 0) (codes "x%") ≡ None
no_letter = refl
