use Rattle.std.proofs.Common.{◌≡◌, ◌∙◌, ap, drop, rules, FitsSigned, w32, w64}
use Rattle.std.specs.Prelude.{Some}
use Rattle.std.proofs.lemmas.Int.{to_z-of_z}
use Rattle.std.proofs.lemmas.List.{take_rest}
use Rattle.site_dates.specs.Moment.{written_zone, moment_at, if_moment, moment_of}
use Rattle.site_dates.proofs.Reading.{at_zone}
use Rattle.site_dates.proofs.moment.moment_of.Goals as goal

pub returns-in-Some-clause-is : goal.returns-in-Some-clause-is
returns-in-Some-clause-is c =
    let time = c.written_clock-clock.result in
    let given_fits : FitsSigned w32 c.args.given = c.ranges.given in
    let zone : Some c.in-Some.offset ≡ written_zone c.args.given (drop time.len c.args.text.now) =
    simp to_z-of_z at (rw (take_rest c.args.text.now time.len) at c.in-Some.ensures.is) in
    let day_fits : FitsSigned w32 c.args.day = c.ranges.day in
    let offset_fits : FitsSigned w32 c.in-Some.offset = search rules in
    let at : c.moment_at.result ≡ moment_at c.args.day time.seconds c.in-Some.offset = simp to_z-of_z at c.moment_at.ensures in
    let moment_fits : FitsSigned w64 c.moment_at.result = search rules in
    let is : c.if_moment.result ≡ if_moment c.moment_at.result = simp to_z-of_z at c.if_moment.ensures.is in
    at_zone c.args.day c.args.given time c.args.text.now c.in-Some.offset c.moment_at.result c.if_moment.result zone at is
    ∙ ap (λ clock. moment_of c.args.day c.args.given clock c.args.text.now) c.written_clock-clock.ensures.is
