use Rattle.std.proofs.Common.{◌∙◌, ap, Bool, subst}
use Rattle.liquid_values.specs.Answers.{in_plain}
use Rattle.liquid_values.specs.Standing.{place_of}
use Rattle.read_record.specs.Answers.{Finds}
use Rattle.read_record.specs.Queries.{run}
use Rattle.liquid_tags.specs.Expressions.{has_default, valued}
use Rattle.liquid_tags.proofs.expressions.expression.Goals as goal

pub returns-clause-gives : goal.returns-clause-gives
returns-clause-gives g c =
    let ex = g.X.Excerpts.excerpts c.args.place.now.levels in let p = place_of c.args.place.now in let vars = c.args.assigned.now in
    let view = g.L.Look.view c.args.look.now in let t = g.L.Look.trace c.args.look.now in
    subst (λ (b : Bool). Finds (run view t (valued ex b p vars c.args.expr.now)) (in_plain c.valued.result) (g.L.Look.trace c.valued.new.look))
    (c.has_default-may_be_undefined.ensures ∙ ap has_default c.as_slice.ensures) c.valued.ensures.gives
