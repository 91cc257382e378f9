use Rattle.std.proofs.Common.{ap, rules, FitsSigned, w64}
use Rattle.std.specs.Option.{option_map}
use Rattle.std.proofs.lemmas.Int.{to_z-of_z}
use Rattle.site_dates.specs.Moment.{IsMoment}
use Rattle.site_items.proofs.dates.name_date.Goals as goal

pub returns-in-Some-clause-value : goal.returns-in-Some-clause-value
returns-in-Some-clause-value c =
    let made = simp (to_z-of_z, c.ranges.offset) at c.in-Some.ensures.parts in
    let range : IsMoment c.in-Some.dated.moment = c.in-Some.ensures.range in
    let fits : FitsSigned w64 c.in-Some.dated.moment = search (rules, range) in
    simp (to_z-of_z, fits) (ap (option_map (λ p. p.0)) made)

pub returns-in-None-clause-value : goal.returns-in-None-clause-value
returns-in-None-clause-value c =
    let made = simp (to_z-of_z, c.ranges.offset) at c.in-None.ensures.parts in
    ap (option_map (λ p. p.0)) made
