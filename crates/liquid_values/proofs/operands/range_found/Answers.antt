use Rattle.site_base.specs.Plain.{Plain}
use Rattle.site_base.specs.View.{plain}
use Rattle.site_base.specs.declared.faults.SiteFault.{SiteFault}
use Rattle.read_record.specs.Queries.{Query}
use Rattle.liquid_values.specs.Answers.{found_of, in_found}
use Rattle.liquid_values.specs.Names.{Found, settled}
use Rattle.liquid_values.specs.Operands.{range_from}
use Rattle.liquid_values.specs.Standing.{place_of}
use Rattle.liquid_values.proofs.NextLaws.{finds_next}
use Rattle.liquid_values.proofs.operands.range_found.Goals as goal

pub returns-clause-gives : goal.returns-clause-gives
returns-clause-gives g c =
    let view = g.L.Look.view c.args.look.now in let t = g.L.Look.trace c.args.look.now in
    let other = g.L.Look.view c.into_value.new.look in let u = g.L.Look.trace c.into_value.new.look in
    let next : Plain → Query SiteFault Found = λ v. range_from (place_of c.args.place.now) v (found_of c.args.last) in
    finds_next view other t (settled (place_of c.args.place.now) (found_of c.args.first)) next (plain c.in_ok-first.first) u c.in_ok-first.ensures.same c.in_ok-first.ensures.gives
    (in_found c.range_from.result) (g.L.Look.trace c.range_from.new.look) c.range_from.ensures.gives
