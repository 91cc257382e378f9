use Rattle.std.proofs.Common.{subst}
use Rattle.site_base.specs.Plain.{Plain}
use Rattle.site_base.specs.View.{plain}
use Rattle.read_record.proofs.CallLaws.{finds_then}
use Rattle.read_record.specs.Answers.{Finds}
use Rattle.read_record.specs.Queries.{run}
use Rattle.liquid_values.specs.Standing.{place_of}
use Rattle.liquid_tags.specs.Elements as definitions
use Rattle.liquid_tags.specs.Expressions.{expression}
use Rattle.liquid_tags.proofs.elements.loop_elements.Goals as goal

pub returns-clause-gives : goal.returns-clause-gives
returns-clause-gives g c =
    let view = g.L.Look.view c.args.look.now in let t = g.L.Look.trace c.args.look.now in let u = g.L.Look.trace c.expression.new.look in let s = g.L.Look.trace c.cut_elements.new.look in
    let ex = g.X.Excerpts.excerpts c.args.place.now.levels in let p = place_of c.args.place.now in let vars = c.args.assigned.now in let tag = c.args.tag.now in
    let v : Plain = plain c.in_ok-value.value in let made = c.cut_elements.result in
    finds_then view t (expression ex p vars tag.list) (λ (w : Plain). definitions.cut_elements ex p vars tag w) v u made s c.in_ok-value.ensures.gives
    (subst (λ w. Finds (run w u (definitions.cut_elements ex p vars tag v)) made s) c.in_ok-value.ensures.same c.cut_elements.ensures.gives)
