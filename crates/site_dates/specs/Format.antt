-- Moments as text: patterns of directives, as those of strftime in POSIX.
use Rattle.std.specs.Prelude.{◌≡◌, ◌≤◌, length, ◌⊎◌, ℕ, ◌+◌, ◌-◌, ◌/◌, ◌%◌, ◌==◌, nat_lt, Bool, true, false, List, [], ◌∷◌, ◌++◌, take, drop, codes, slice_index_or, ℤ, pos, negsuc, unsigned_abs, Option, Some, None, if◌then◌else◌}
use Rattle.std.specs.Option.{option_map}
use Rattle.std.specs.List.{slice_split}
use Rattle.std.specs.Fmt.{signed_decimal}
use Rattle.std.specs.Str.{IsUtf8, IsCharBoundary}
use Rattle.site_dates.specs.declared.directive.Directive.{Directive}
use Rattle.site_dates.specs.declared.directive.Directive.TheVariants.{Year, ShortYear, Month, BareMonth, Day, BareDay, SpacedDay, Hour, BareHour, HalfHour, BareHalfHour, Minute, Second, Half, MonthName, ShortMonthName, WeekdayName, ShortWeekdayName, DayOfYear, Offset, ColonOffset, Moment, FullDate, FullTime}
use Rattle.site_dates.specs.declared.directive.Found.{Found}
use Rattle.site_dates.specs.declared.format.FormatError.{FormatError}
use Rattle.site_dates.specs.declared.format.FormatError.TheVariants.{BadFormat, Memory}
use Rattle.site_dates.specs.Days.{CivilDay}
use Rattle.site_dates.specs.Shown.{Shown, local_time, half_hour, weekday, year_day}

abbrev pub digit : ℕ → List ℕ
digit n = (48 + n % 10) ∷ []

-- the last digits of a number
abbrev pub two_digits : ℕ → List ℕ
two_digits n = digit (n / 10) ++ digit n

abbrev pub three_digits : ℕ → List ℕ
three_digits n = digit (n / 100) ++ two_digits n

abbrev pub four_digits : ℕ → List ℕ
four_digits n = two_digits (n / 100) ++ two_digits n

-- up to two digits, without a zero in front
abbrev pub bare_digits : ℕ → List ℕ
bare_digits n = if nat_lt n 10 then digit n else two_digits n

-- with a space in place of that zero
abbrev pub spaced_digits : ℕ → List ℕ
spaced_digits n = if nat_lt n 10 then 32 ∷ digit n else two_digits n

abbrev pub month_name : ℕ → List ℕ
month_name month = slice_index_or (codes "January" ∷ codes "February" ∷ codes "March" ∷ codes "April" ∷ codes "May" ∷ codes "June" ∷ codes "July" ∷ codes "August" ∷ codes "September" ∷ codes "October" ∷ codes "November" ∷ codes "December" ∷ []) (month - 1) []

abbrev pub weekday_name : ℕ → List ℕ
weekday_name day = slice_index_or (codes "Monday" ∷ codes "Tuesday" ∷ codes "Wednesday" ∷ codes "Thursday" ∷ codes "Friday" ∷ codes "Saturday" ∷ codes "Sunday" ∷ []) day []

abbrev pub half_text : ℕ → List ℕ
half_text hour = if nat_lt hour 12 then codes "AM" else codes "PM"

abbrev pub sign : ℤ → List ℕ
sign (pos n) = codes "+"
sign (negsuc n) = codes "-"

abbrev pub full_date : CivilDay → List ℕ
full_date date = four_digits (unsigned_abs date.year) ++ (45 ∷ (two_digits date.month ++ (45 ∷ two_digits date.day)))

abbrev pub full_time : Shown → List ℕ
full_time t = two_digits t.hour ++ (58 ∷ (two_digits t.minute ++ (58 ∷ two_digits t.second)))

abbrev pub offset_text : List ℕ → ℤ → List ℕ
offset_text between offset = sign offset ++ (two_digits (unsigned_abs offset / 3600) ++ (between ++ two_digits (unsigned_abs offset / 60 % 60)))

-- what stands for a directive
abbrev pub directive_text : Directive → Shown → List ℕ
directive_text Year t = four_digits (unsigned_abs t.date.year)
directive_text ShortYear t = two_digits (unsigned_abs t.date.year)
directive_text Month t = two_digits t.date.month
directive_text BareMonth t = bare_digits t.date.month
directive_text Day t = two_digits t.date.day
directive_text BareDay t = bare_digits t.date.day
directive_text SpacedDay t = spaced_digits t.date.day
directive_text Hour t = two_digits t.hour
directive_text BareHour t = bare_digits t.hour
directive_text HalfHour t = two_digits (half_hour t)
directive_text BareHalfHour t = bare_digits (half_hour t)
directive_text Minute t = two_digits t.minute
directive_text Second t = two_digits t.second
directive_text Half t = half_text t.hour
directive_text MonthName t = month_name t.date.month
directive_text ShortMonthName t = take 3 (month_name t.date.month)
directive_text WeekdayName t = weekday_name (weekday t)
directive_text ShortWeekdayName t = take 3 (weekday_name (weekday t))
directive_text DayOfYear t = three_digits (year_day t)
directive_text Offset t = offset_text [] t.offset
directive_text ColonOffset t = offset_text (codes ":") t.offset
directive_text Moment t = signed_decimal t.moment
directive_text FullDate t = full_date t.date
directive_text FullTime t = full_time t

-- the directive of a letter behind `%`
abbrev pub letter_directive : ℕ → Option Directive
letter_directive b =
    if b == 89 then Some Year
    else if b == 121 then Some ShortYear
    else if b == 109 then Some Month
    else if b == 100 then Some Day
    else if b == 101 then Some SpacedDay
    else if b == 72 then Some Hour
    else if b == 73 then Some HalfHour
    else if b == 77 then Some Minute
    else if b == 83 then Some Second
    else if b == 112 then Some Half
    else if b == 66 then Some MonthName
    else if b == 98 then Some ShortMonthName
    else if b == 65 then Some WeekdayName
    else if b == 97 then Some ShortWeekdayName
    else if b == 106 then Some DayOfYear
    else if b == 122 then Some Offset
    else if b == 115 then Some Moment
    else if b == 70 then Some FullDate
    else if b == 84 then Some FullTime
    else None

-- behind `%-`
abbrev pub bare_directive : ℕ → Option Directive
bare_directive b =
    if b == 109 then Some BareMonth
    else if b == 100 then Some BareDay
    else if b == 72 then Some BareHour
    else if b == 73 then Some BareHalfHour
    else None

-- behind `%:`
abbrev pub colon_directive : ℕ → Option Directive
colon_directive b = if b == 122 then Some ColonOffset else None

abbrev pub found : ℕ → Directive → Found
found len directive = record { directive = directive; len = len }

abbrev pub sized : ℕ → Option Directive → Option Found
sized len directive = option_map (found len) directive

-- the directive at the front of what stands behind a `%`
abbrev pub directive_at : List ℕ → Option Found
directive_at [] = None
directive_at (b ∷ []) = sized 1 (letter_directive b)
directive_at (b ∷ c ∷ rest) =
    if b == 45 then sized 2 (bare_directive c)
    else if b == 58 then sized 2 (colon_directive c)
    else sized 1 (letter_directive b)

-- a text may be cut at this place
abbrev pub IsCut : List ℕ → ℕ → Type 0
IsCut text at = (at ≤ length text) × (IsUtf8 text → IsCharBoundary text at)

-- a part of a pattern, with the directive at its front written
abbrev pub part_text : Shown → List ℕ → Option (List ℕ)
part_text t part = option_map (λ at. directive_text at.directive t ++ drop at.len part) (directive_at part)

-- one text behind another, where both are there
abbrev pub both : Option (List ℕ) → Option (List ℕ) → Option (List ℕ)
both None after = None
both (Some before) None = None
both (Some before) (Some after) = Some (before ++ after)

-- the parts of a pattern, each of which stands behind a `%`; `escaped` says that one more `%` stands before them, which
-- makes one of the two, and after which nothing is a directive
abbrev pub parts_text : Shown → Bool → List (List ℕ) → Option (List ℕ)
parts_text t true [] = None
parts_text t false [] = Some []
parts_text t true (part ∷ parts) = both (Some (37 ∷ part)) (parts_text t false parts)
parts_text t false ([] ∷ parts) = parts_text t true parts
parts_text t false ((b ∷ part) ∷ parts) = both (part_text t (b ∷ part)) (parts_text t false parts)

abbrev pub is_percent : ℕ → Bool
is_percent b = b == 37

-- what stands before the first `%` is text
abbrev pub pattern_text : Shown → List (List ℕ) → Option (List ℕ)
pattern_text t [] = Some []
pattern_text t (part ∷ parts) = both (Some part) (parts_text t false parts)

-- the moment written by the pattern, where each of its directives is known
abbrev pub format_moment : ℤ → ℤ → List ℕ → Option (List ℕ)
format_moment moment offset pattern = pattern_text (local_time moment offset) (slice_split is_percent pattern)

-- memory aside, only a pattern without such a text is refused
abbrev pub IsRefusal : Option (List ℕ) → FormatError → Type 0
IsRefusal text error = (error ≡ Memory) ⊎ ((error ≡ BadFormat) × (text ≡ None))
