-- What a text that begins with a date is read as, from what code finds in it.
use Rattle.std.proofs.Common.{◌≡◌, ◌∙◌, ap, List, ℕ, drop}
use Rattle.std.specs.Prelude.{ℤ, Option, Some, option_and_then}
use Rattle.site_dates.specs.declared.moment.Clock.{Clock}
use Rattle.site_dates.specs.Moment.{written_number, written_clock, written_zone, moment_at, if_moment, moment_of, read_moment}

-- at the offset that is found
pub at_zone : (day given : ℤ) (time : Clock) (text : List ℕ) (offset moment : ℤ) (result : Option ℤ) → Some offset ≡ written_zone given (drop time.len text) → moment ≡ moment_at day time.seconds offset → result ≡ if_moment moment → result ≡ moment_of day given time text
at_zone day given time text offset moment result zone at is = is ∙ ap if_moment at ∙ ap (option_and_then (λ found. if_moment (moment_at day time.seconds found))) zone

-- on the day that is found
pub on_day : (text : List ℕ) (given day : ℤ) (result : Option ℤ) → Some day ≡ written_number text → result ≡ moment_of day given (written_clock (drop 10 text)) (drop 10 text) → result ≡ read_moment text given
on_day text given day result number is =
    is ∙ ap (option_and_then (λ found. moment_of found given (written_clock (drop 10 text)) (drop 10 text))) number
