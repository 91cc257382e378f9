use Rattle.std.proofs.Common.{◌∙◌, ap, sym, subst}
use Rattle.std.proofs.lemmas.Result.{err_from_is_err_and}
use Rattle.site_base.specs.View.{plain}
use Rattle.site_base.specs.Values.{is_true}
use Rattle.read_record.specs.Answers.{Finds, Stops}
use Rattle.read_record.specs.Queries.{Give, RanTo, run}
use Rattle.read_record.proofs.CallLaws.{finds_then, stops_bind}
use Rattle.read_record.proofs.QueryLaws.{run_gave}
use Rattle.liquid_grammar.specs.declared.condition.Test.TheVariants.{Compares}
use Rattle.liquid_values.specs.Operands.{operand}
use Rattle.liquid_values.specs.Standing.{place_of}
use Rattle.liquid_tags.specs.Conditions as conditions
use Rattle.liquid_tags.proofs.conditions.test.Goals as goal

pub returns-in_ok-value-in-Holds-clause-gives : goal.returns-in_ok-value-in-Holds-clause-gives
returns-in_ok-value-in-Holds-clause-gives g c =
    let view = g.L.Look.view c.args.look.now in let t = g.L.Look.trace c.args.look.now in let s = g.L.Look.trace c.operand.new.look in
    let ex = g.X.Excerpts.excerpts c.args.place.now.levels in let p = place_of c.args.place.now in let vars = c.args.assigned.now in
    ap (λ x. run view t (conditions.test ex p vars x)) c.in-Holds.is
    ∙ run_gave view t (operand ex p vars c.in-Holds.each) (λ v. Give (is_true v)) (plain c.in_ok-value-in-Holds.value) s c.in_ok-value-in-Holds.ensures.gives
    ∙ ap (λ b. RanTo b s) (sym c.is_true.ensures)

pub returns-in_err-value-in-Compares-clause-gives : goal.returns-in_err-value-in-Compares-clause-gives
returns-in_err-value-in-Compares-clause-gives g c =
    let view = g.L.Look.view c.args.look.now in let t = g.L.Look.trace c.args.look.now in let s = g.L.Look.trace c.operand-in-Compares.new.look in
    let ex = g.X.Excerpts.excerpts c.args.place.now.levels in let p = place_of c.args.place.now in let vars = c.args.assigned.now in
    let a = c.get.result.now in let how = c.in-Compares.how in let b = c.in-Compares.right in
    let stop = c.in_err-value-in-Compares.field-0.0 in
    let e = err_from_is_err_and c.from_residual-in_err-value-in-Compares.result c.from_residual-in_err-value-in-Compares.ensures.1 in
    rw (e.1, e.2)
    (subst (λ x. Stops (run view t (conditions.test ex p vars x)) stop s) (sym (c.in-Compares.is ∙ ap (λ y. Compares y how b) (sym c.get.ensures)))
    (stops_bind view t (operand ex p vars a) (λ u. conditions.compared_with ex p vars u how b) stop s c.in_err-value-in-Compares.ensures.gives))

pub returns-in_ok-value-in-Compares-clause-gives : goal.returns-in_ok-value-in-Compares-clause-gives
returns-in_ok-value-in-Compares-clause-gives g c =
    let view = g.L.Look.view c.args.look.now in let t = g.L.Look.trace c.args.look.now in
    let s = g.L.Look.trace c.operand-in-Compares.new.look in let z = g.L.Look.trace c.compare_with.new.look in
    let ex = g.X.Excerpts.excerpts c.args.place.now.levels in let p = place_of c.args.place.now in let vars = c.args.assigned.now in
    let a = c.get.result.now in let how = c.in-Compares.how in let b = c.get-in-Compares.result.now in let v = plain c.in_ok-value-in-Compares.value in
    subst (λ x. Finds (run view t (conditions.test ex p vars x)) c.compare_with.result z) (sym (c.in-Compares.is ∙ (λ i. Compares (sym c.get.ensures i) how (sym c.get-in-Compares.ensures i))))
    (finds_then view t (operand ex p vars a) (λ u. conditions.compared_with ex p vars u how b) v s c.compare_with.result z c.in_ok-value-in-Compares.ensures.gives
    (subst (λ w. Finds (run w s (conditions.compared_with ex p vars v how b)) c.compare_with.result z) c.in_ok-value-in-Compares.ensures.same c.compare_with.ensures.gives))
