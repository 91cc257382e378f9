use Rattle.std.proofs.Common.{◌≡◌, drop, rules, FitsSigned, w32}
use Rattle.std.specs.Prelude.{Some}
use Rattle.std.proofs.lemmas.Int.{to_z-of_z}
use Rattle.std.proofs.lemmas.List.{take_rest}
use Rattle.site_dates.specs.Moment.{written_number, written_clock, moment_of}
use Rattle.site_dates.proofs.Reading.{on_day}
use Rattle.site_dates.proofs.moment.read_moment.Goals as goal

pub returns-in-Some-clause-is : goal.returns-in-Some-clause-is
returns-in-Some-clause-is c =
    let text = c.args.text.now in
    let offset_fits : FitsSigned w32 c.args.offset = c.ranges.offset in
    let day_fits : FitsSigned w32 c.in-Some.day = search rules in
    let number : Some c.in-Some.day ≡ written_number text = rw c.as_bytes-text.ensures.value at c.in-Some.ensures.is in
    let made : c.moment_of.result ≡ moment_of c.in-Some.day c.args.offset (written_clock (drop 10 text)) (drop 10 text) = simp (to_z-of_z, take_rest, c.as_bytes-text.ensures.value) at c.moment_of.ensures.is in
    on_day text c.args.offset c.in-Some.day c.moment_of.result number made
