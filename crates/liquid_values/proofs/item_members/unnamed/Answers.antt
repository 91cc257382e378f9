use Rattle.std.specs.Prelude.{None}
use Rattle.site_base.specs.Plain.{Plain}
use Rattle.site_base.specs.View.{plain}
use Rattle.site_base.specs.declared.faults.SiteFault.{SiteFault}
use Rattle.read_record.specs.Queries.{Query}
use Rattle.liquid_values.specs.Answers.{found_of, in_found}
use Rattle.liquid_values.specs.Names.{Found, reached, settled}
use Rattle.liquid_values.specs.Standing.{place_of}
use Rattle.liquid_values.proofs.NextLaws.{finds_next}
use Rattle.liquid_values.proofs.item_members.unnamed.Goals as goal

pub returns-clause-gives : goal.returns-clause-gives
returns-clause-gives g c =
    let p = place_of c.args.place.now in
    let next : Plain → Query SiteFault Found = λ v. reached p None in
    finds_next (g.L.Look.view c.args.look.now) (g.L.Look.view c.into_value.new.look) (g.L.Look.trace c.args.look.now) (settled p (found_of c.args.found)) next
    (plain c.in_ok-_value._value) (g.L.Look.trace c.into_value.new.look) c.in_ok-_value.ensures.same c.in_ok-_value.ensures.gives
    (in_found c.reached.result) (g.L.Look.trace c.reached.new.look) c.reached.ensures.gives
