-- The day so many days after 1 January of the year 1 is the one that the kit's count gives that number.
use Rattle.std.proofs.Common.{◌≡◌, ℕ, zero, suc, ◌+◌, ◌-◌, ◌<◌, ◌≤◌, inl, inr, ap, sym, refl, ◌∙◌, true, false, arith, rules, ℤ, pos, neg_ℤ, ◌+ℤ◌, ◌-ℤ◌, ◌≤ℤ◌, unsigned_abs, nat_lt}
use Rattle.std.proofs.lemmas.Bool.{cases_lt}
use Rattle.std.proofs.lemmas.Bool.Decides.{nat_tests}
use Rattle.std.proofs.lemmas.Int.{by_lt_z}
use Rattle.jiff_core.specs.declared.civil.date.Date.{Date}
use Rattle.jiff_core.specs.Calendar.{days_in_month}
use Rattle.jiff_core.specs.Date.{epoch_day}
use Rattle.jiff_core.proofs.SignedLemmas.{signed_arith, one_part}
use Rattle.jiff_core.proofs.CalendarLemmas.{days_in_month_bounds, days_from_civil-day_count}
use Rattle.jiff_core.proofs.MarchLemmas.{day_count-early}
use Rattle.jiff_core.proofs.DateLemmas.{epoch_day_injective, epoch_day-lt, days_from_civil-day, days_from_civil-next_month, days_from_civil-next_year}
use Rattle.site_dates.specs.Days.{ymd, civil_day, day_number, day_after, first_day, day_at, day_of}

next_in_month : (y : ℤ) (m d : ℕ) → 2 ≤ d → d ≤ days_in_month y m → day_after (ymd y m (d - 1)) ≡ ymd y m d
next_in_month y m d two last =
    let lt : nat_lt (d - 1) (days_in_month y m) ≡ true = grind (arith, nat_tests) in
    let back : d - 1 + 1 ≡ d = omega arith in
    rw (lt, back) refl

next_month : (y : ℤ) (m : ℕ) → 2 ≤ m → m ≤ 12 → day_after (ymd y (m - 1) (days_in_month y (m - 1))) ≡ ymd y m 1
next_month y m two last =
    let full : nat_lt (days_in_month y (m - 1)) (days_in_month y (m - 1)) ≡ false = grind (arith, nat_tests) in
    let lt : nat_lt (m - 1) 12 ≡ true = grind (arith, nat_tests) in
    let back : m - 1 + 1 ≡ m = omega arith in
    rw (full, lt, back) refl

next_year : (y : ℤ) → day_after (ymd (y -ℤ pos 1) 12 31) ≡ ymd y 1 1
next_year y = let back : y -ℤ pos 1 +ℤ pos 1 ≡ y = omega (arith, signed_arith) in rw back refl

same_day : (y y₂ : ℤ) (m m₂ d d₂ : ℕ) → y ≡ y₂ → m ≡ m₂ → d ≡ d₂ → ymd y m d ≡ ymd y₂ m₂ d₂
same_day y y₂ m m₂ d d₂ year month day = rw (year, month, day) refl

first : Date
first = record { year = pos 1; month = 1; day = 1; year_in = search rules; month_in = search rules; day_in = search rules }

-- n days after the first
abbrev IsAt : Date → ℕ → Type 0
IsAt d n = epoch_day d ≡ day_number first_day +ℤ pos n

abbrev Before : ℕ → Type 0
Before n = (p : Date) → IsAt p n → day_at n ≡ civil_day p

after_day : (d : Date) (n : ℕ) → 1 < d.day → IsAt d (suc n) → Before n → day_after (day_at n) ≡ civil_day d
after_day d n two e before =
    let p : Date = record { year = d.year; month = d.month; day = d.day - 1; year_in = d.year_in; month_in = d.month_in; day_in = (omega arith, omega (arith, d.day_in)) } in
    let at : IsAt p n = omega (arith, signed_arith, days_from_civil-day d.year d.month (d.day - 1) d.day (omega arith) (omega arith)) in
    ap day_after (before p at) ∙ next_in_month d.year d.month d.day (omega arith) d.day_in.1

after_month : (d : Date) (n : ℕ) → d.day ≡ 1 → 1 < d.month → IsAt d (suc n) → Before n → day_after (day_at n) ≡ civil_day d
after_month d n one two e before =
    let long = days_in_month_bounds d.year (d.month - 1) in
    let p : Date = record { year = d.year; month = d.month - 1; day = days_in_month d.year (d.month - 1); year_in = d.year_in; month_in = (omega arith, omega (arith, d.month_in)); day_in = (omega arith, omega arith) } in
    let back : d.month - 1 + 1 ≡ d.month = omega arith in
    let next = rw back at (days_from_civil-next_month d.year (d.month - 1) (days_in_month d.year (d.month - 1)) (omega arith) refl) in
    let at : IsAt p n = omega (arith, signed_arith, rw one at e, next) in
    ap day_after (before p at) ∙ next_month d.year d.month (omega arith) d.month_in.1 ∙ same_day d.year d.year d.month d.month 1 d.day refl refl (sym one)

late_year : (d : Date) (n : ℕ) → IsAt d (suc n) → pos 1 ≤ℤ d.year
unfolding first
late_year d n e =
    by_lt_z d.year (pos 1) (λ lt. absurd (omega (arith, signed_arith, epoch_day-lt d first (inl lt)))) (λ le. le)

after_year : (d : Date) (n : ℕ) → d.day ≡ 1 → d.month ≡ 1 → IsAt d (suc n) → Before n → day_after (day_at n) ≡ civil_day d
after_year d n one first_month e before =
    let year = late_year d n e in
    let p : Date = record { year = d.year -ℤ pos 1; month = 12; day = 31; year_in = omega (arith, signed_arith, d.year_in); month_in = search rules; day_in = search rules } in
    let next = days_from_civil-next_year (d.year -ℤ pos 1) d.year (omega (arith, signed_arith)) (omega (arith, signed_arith)) in
    let at : IsAt p n = omega (arith, signed_arith, rw (one, first_month) at e, next) in
    ap day_after (before p at) ∙ next_year d.year ∙ same_day d.year d.year 1 d.month 1 d.day refl (sym first_month) (sym one)

day_at_is : (n : ℕ) (d : Date) → IsAt d n → day_at n ≡ civil_day d
unfolding day_at first
day_at_is zero d e =
    let zero_more : day_number first_day +ℤ pos 0 ≡ day_number first_day = omega (arith, signed_arith) in
    let same = epoch_day_injective first d (sym (e ∙ zero_more)) in
    same_day (pos 1) d.year 1 d.month 1 d.day same.0 same.1 same.2
day_at_is (suc n) d e =
    elim (cases_lt 1 d.day) [
      | inl later ↦ after_day d n later e (day_at_is n)
      | inr day ↦ elim (cases_lt 1 d.month) [
        | inl later ↦ after_month d n (omega (arith, d.day_in)) later e (day_at_is n)
        | inr month ↦ after_year d n (omega (arith, d.day_in)) (omega (arith, d.month_in)) e (day_at_is n)
      ]
    ]

first_number : day_number first_day ≡ neg_ℤ (pos 719_162)
first_number =
    omega (arith, signed_arith, days_from_civil-day_count (pos 1) 1 1, day_count-early (pos 1) 10000 1 1 refl (omega arith) (omega arith) (omega arith))

-- a date that is not before 1 January of the year 1 is the day with its number
pub day_of_is : (number : ℤ) (d : Date) → epoch_day d ≡ number → neg_ℤ (pos 719_162) ≤ℤ number → day_of number ≡ civil_day d
day_of_is number d e low =
    day_at_is (unsigned_abs (number -ℤ day_number first_day)) d (omega (arith, signed_arith, first_number, one_part (number -ℤ day_number first_day)))
