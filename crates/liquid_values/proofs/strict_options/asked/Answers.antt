use Rattle.std.proofs.Common.{subst}
use Rattle.site_base.specs.Plain.{Plain}
use Rattle.site_base.specs.View.{plain}
use Rattle.site_base.specs.declared.faults.SiteFault.{SiteFault}
use Rattle.read_record.specs.Answers.{Finds}
use Rattle.read_record.specs.Queries.{Ask, Give, Query, run}
use Rattle.liquid_values.specs.Answers.{in_plain}
use Rattle.liquid_values.specs.Standing.{place_of}
use Rattle.liquid_values.specs.StrictOptions.{defined, present}
use Rattle.liquid_values.proofs.NextLaws.{finds_next}
use Rattle.liquid_values.proofs.strict_options.asked.Goals as goal

pub returns-clause-gives : goal.returns-clause-gives
returns-clause-gives g c =
    let other = g.L.Look.view c.ask.new.look in let u = g.L.Look.trace c.ask.new.look in let s = g.L.Look.trace c.defined.new.look in
    let p = place_of c.args.place.now in
    let next : Plain → Query SiteFault Plain = λ v. defined p (present v) in
    finds_next (g.L.Look.view c.args.look.now) other (g.L.Look.trace c.args.look.now) (Ask c.args.key.now Give) next
    (plain c.in_ok-value.value) u c.in_ok-value.ensures.same c.in_ok-value.ensures.gives
    (in_plain c.defined.result) s (subst (λ o. Finds (run other u (defined p o)) (in_plain c.defined.result) s) c.present.ensures c.defined.ensures.gives)
