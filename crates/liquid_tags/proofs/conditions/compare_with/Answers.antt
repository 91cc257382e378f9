use Rattle.std.proofs.Common.{◌∙◌, ap, subst}
use Rattle.site_base.specs.View.{plain}
use Rattle.read_record.proofs.CallLaws.{finds_then}
use Rattle.liquid_values.specs.Answers.{FoundAt}
use Rattle.liquid_values.specs.Operands.{operand}
use Rattle.liquid_values.specs.Places.{found_at}
use Rattle.liquid_values.specs.Standing.{place_of}
use Rattle.liquid_values.proofs.PlaceLaws.{found_runs}
use Rattle.liquid_tags.specs.Conditions.{compare, right_of}
use Rattle.liquid_tags.proofs.conditions.compare_with.Goals as goal

pub returns-clause-gives : goal.returns-clause-gives
returns-clause-gives g c =
    let view = g.L.Look.view c.args.look.now in let t = g.L.Look.trace c.args.look.now in let s = g.L.Look.trace c.operand.new.look in
    let ex = g.X.Excerpts.excerpts c.args.place.now.levels in let p = place_of c.args.place.now in let vars = c.args.assigned.now in
    let v = plain c.args.value.now in let w = plain c.in_ok-other.other in let how = c.args.how in let b = c.args.right.now in
    finds_then view t (operand ex p vars b) (λ u. found_at p (compare how (right_of b) v u)) w s c.found.result s c.in_ok-other.ensures.gives
    (found_runs view s p (compare how (right_of b) v w) c.found.result
    (subst (λ r. FoundAt p r c.found.result) (c.in_ok-found.ensures ∙ ap (λ r. compare how r v w) c.right_of.ensures) c.found.ensures))
