use Rattle.site_base.specs.Plain.{Plain}
use Rattle.site_base.specs.View.{plain}
use Rattle.read_record.proofs.CallLaws.{finds_then}
use Rattle.liquid_values.proofs.PlaceLaws.{found_runs}
use Rattle.liquid_values.specs.Places.{found_at}
use Rattle.liquid_values.specs.Standing.{place_of}
use Rattle.liquid_tags.specs.Elements as definitions
use Rattle.liquid_tags.specs.Expressions.{expression}
use Rattle.liquid_tags.proofs.elements.given_number.Goals as goal

pub returns-clause-gives : goal.returns-clause-gives
returns-clause-gives g c =
    let view = g.L.Look.view c.args.look.now in let t = g.L.Look.trace c.args.look.now in let u = g.L.Look.trace c.expression.new.look in
    let ex = g.X.Excerpts.excerpts c.args.place.now.levels in let p = place_of c.args.place.now in let vars = c.args.assigned.now in
    let v : Plain = plain c.in_ok-value.value in let found = c.number_in.result in
    finds_then view t (expression ex p vars c.args.expr.now) (λ (w : Plain). found_at p (definitions.whole w)) v u found u c.in_ok-value.ensures.gives
    (found_runs view u p (definitions.whole v) found c.number_in.ensures)
