use Rattle.site_base.specs.Plain.{Plain}
use Rattle.site_base.specs.View.{plain}
use Rattle.site_base.specs.declared.faults.SiteFault.{SiteFault}
use Rattle.read_record.specs.Queries.{Query}
use Rattle.read_record.specs.declared.key.Key.TheVariants.{Data}
use Rattle.liquid_values.specs.Answers.{in_found}
use Rattle.liquid_values.specs.Names.{Found}
use Rattle.liquid_values.specs.Operands.{value_member}
use Rattle.liquid_values.specs.Standing.{place_of}
use Rattle.liquid_values.specs.StrictOptions.{asked}
use Rattle.liquid_values.proofs.NextLaws.{finds_next}
use Rattle.liquid_values.proofs.item_members.member_of_data.Goals as goal

pub returns-clause-gives : goal.returns-clause-gives
returns-clause-gives g c =
    let view = g.L.Look.view c.args.look.now in let t = g.L.Look.trace c.args.look.now in
    let other = g.L.Look.view c.asked.new.look in let u = g.L.Look.trace c.asked.new.look in
    let next : Plain → Query SiteFault Found = λ v. value_member (g.X.Excerpts.excerpts c.args.place.now.levels) (place_of c.args.place.now) v c.args.name.now in
    finds_next view other t (asked (place_of c.args.place.now) (Data c.args.keys)) next (plain c.in_ok-value.value) u c.in_ok-value.ensures.same c.in_ok-value.ensures.gives
    (in_found c.value_member.result) (g.L.Look.trace c.value_member.new.look) c.value_member.ensures.gives
