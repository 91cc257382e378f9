use Rattle.std.proofs.Common.{◌≡◌, sym, ap, subst, ◌∙◌, rules, FitsSigned, w64}
use Rattle.std.proofs.lemmas.Int.{to_z-of_z}
use Rattle.site_base.specs.Plain.{text}
use Rattle.site_config.specs.Forms.{given}
use Rattle.site_dates.specs.Moment.{read_moment}
use Rattle.site_items.specs.Dates.{given_date, if_date}
use Rattle.site_items.specs.Outcomes.{IsFault}
use Rattle.site_items.proofs.dates.given_date.Goals as goal

pub returns-in-Some-read_moment-clause-value : goal.returns-in-Some-read_moment-clause-value
returns-in-Some-read_moment-clause-value c =
    let found : c.read_moment.result ≡ read_moment c.in-Some-Text.text c.args.offset = (simp (to_z-of_z, c.ranges.offset) at c.read_moment.ensures.is) ∙ ap (λ s. read_moment s c.args.offset) c.as_str.ensures in
    let value : given c.args.value ≡ text c.in-Some-Text.text = search rules in
    let fits : FitsSigned w64 c.in-Some-read_moment.moment = search rules in
    simp (to_z-of_z, fits) (ap (given_date c.args.offset) value ∙ ap if_date (sym found ∙ c.in-Some-read_moment.is))

pub returns-in-None-read_moment-clause-value : goal.returns-in-None-read_moment-clause-value
returns-in-None-read_moment-clause-value c =
    let found : c.read_moment.result ≡ read_moment c.in-Some-Text.text c.args.offset = (simp (to_z-of_z, c.ranges.offset) at c.read_moment.ensures.is) ∙ ap (λ s. read_moment s c.args.offset) c.as_str.ensures in
    let value : given c.args.value ≡ text c.in-Some-Text.text = search rules in
    let fault = ap (given_date c.args.offset) value ∙ ap if_date (sym found ∙ c.in-None-read_moment.is) in
    subst (IsFault (given_date c.args.offset (given c.args.value))) (sym c.bad_date.ensures) fault
