use Rattle.site_base.specs.Plain.{Plain}
use Rattle.site_base.specs.View.{plain}
use Rattle.site_base.specs.declared.faults.SiteFault.{SiteFault}
use Rattle.read_record.specs.Queries.{Query}
use Rattle.liquid_values.specs.Answers.{found_of, in_found}
use Rattle.liquid_values.specs.Names.{Found, settled}
use Rattle.liquid_values.specs.Operands.{indexed}
use Rattle.liquid_values.specs.Standing.{place_of}
use Rattle.liquid_values.proofs.NextLaws.{finds_next}
use Rattle.liquid_values.proofs.item_members.index_found.Goals as goal

pub returns-clause-gives : goal.returns-clause-gives
returns-clause-gives g c =
    let view = g.L.Look.view c.args.look.now in let t = g.L.Look.trace c.args.look.now in
    let other = g.L.Look.view c.into_value.new.look in let u = g.L.Look.trace c.into_value.new.look in
    let next : Plain → Query SiteFault Found = λ v. indexed (g.X.Excerpts.excerpts c.args.place.now.levels) (place_of c.args.place.now) (found_of c.args.found) v in
    finds_next view other t (settled (place_of c.args.place.now) (found_of c.args.index)) next (plain c.in_ok-index.index) u c.in_ok-index.ensures.same c.in_ok-index.ensures.gives
    (in_found c.indexed.result) (g.L.Look.trace c.indexed.new.look) c.indexed.ensures.gives
