use Rattle.std.proofs.Common.{◌≡◌, subst}
use Rattle.std.specs.Option.{option_map}
use Rattle.std.proofs.lemmas.Int.{to_z-of_z}
use Rattle.site_base.specs.Plain.{Plain}
use Rattle.site_base.specs.View.{plain}
use Rattle.site_base.specs.declared.faults.SiteFault.{SiteFault}
use Rattle.read_record.specs.Answers.{Finds}
use Rattle.read_record.specs.Queries.{Query, run}
use Rattle.liquid_values.specs.Answers.{found_of, in_found}
use Rattle.liquid_values.specs.Members.{element_at}
use Rattle.liquid_values.specs.Names.{Found, reached, settled}
use Rattle.liquid_values.specs.Standing.{place_of}
use Rattle.liquid_values.proofs.NextLaws.{finds_next}
use Rattle.liquid_values.proofs.item_members.numbered.Goals as goal

pub returns-clause-gives : goal.returns-clause-gives
returns-clause-gives g c =
    let view = g.L.Look.view c.args.look.now in let t = g.L.Look.trace c.args.look.now in
    let other = g.L.Look.view c.into_value.new.look in let u = g.L.Look.trace c.into_value.new.look in
    let p = place_of c.args.place.now in let v = plain c.in_ok-value.value in let s = g.L.Look.trace c.reached.new.look in
    let next : Plain → Query SiteFault Found = λ v. reached p (element_at c.args.number v) in
    let is : option_map plain c.in_ok-element_at.field-0 ≡ element_at c.args.number v = simp (to_z-of_z, c.ranges.number) at c.in_ok-element_at.ensures in
    finds_next view other t (settled p (found_of c.args.found)) next v u c.in_ok-value.ensures.same c.in_ok-value.ensures.gives
    (in_found c.reached.result) s (subst (λ o. Finds (run other u (reached p o)) (in_found c.reached.result) s) is c.reached.ensures.gives)
