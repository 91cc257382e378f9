use Rattle.std.proofs.Common.{◌∙◌, ap, sym, subst}
use Rattle.std.specs.Prelude.{ℕ}
use Rattle.std.proofs.lemmas.Result.{err_from_is_err_and}
use Rattle.site_base.specs.View.{plain}
use Rattle.read_record.proofs.CallLaws.{stops_bind, finds_then}
use Rattle.read_record.specs.Answers.{Stops, Finds}
use Rattle.read_record.specs.Queries.{run}
use Rattle.liquid_grammar.specs.declared.item.Block.{Block}
use Rattle.liquid_grammar.specs.declared.item.Block.TheVariants.{If, Unless, Case}
use Rattle.liquid_values.specs.Places.{Place, untested}
use Rattle.liquid_values.specs.Standing.{place_of}
use Rattle.liquid_tags.specs.Branches as branches
use Rattle.liquid_tags.specs.Branches.{chosen, if_part, takes_value, unless_part}
use Rattle.liquid_tags.specs.Expressions.{case_value}
use Rattle.liquid_tags.proofs.branches.branch.Goals as goal

pub returns-in-If-clause-gives : goal.returns-in-If-clause-gives
returns-in-If-clause-gives g c =
    let view = g.L.Look.view c.args.look.now in let t = g.L.Look.trace c.args.look.now in let z = g.L.Look.trace c.if_part.new.look in
    let ex = g.X.Excerpts.excerpts in let vars = c.args.assigned.now in let parts = c.args.parts.now in let free = c.untested-free.result in
    subst (λ (b : Block). Finds (run view t (branches.branch (ex c.args.place.now.levels) (place_of c.args.place.now) vars b parts)) c.if_part.result z) (sym c.in-If.is)
    (subst (λ (q : Place). Finds (run view t (if_part (ex c.args.place.now.levels) q vars parts)) c.if_part.result z) c.untested-free.ensures.at
    (subst (λ (n : ℕ). Finds (run view t (if_part (ex n) (place_of free) vars parts)) c.if_part.result z) c.untested-free.ensures.levels c.if_part.ensures.gives))

pub returns-in-Unless-clause-gives : goal.returns-in-Unless-clause-gives
returns-in-Unless-clause-gives g c =
    let view = g.L.Look.view c.args.look.now in let t = g.L.Look.trace c.args.look.now in let z = g.L.Look.trace c.unless_part.new.look in
    let ex = g.X.Excerpts.excerpts in let vars = c.args.assigned.now in let parts = c.args.parts.now in let free = c.untested-free.result in
    subst (λ (b : Block). Finds (run view t (branches.branch (ex c.args.place.now.levels) (place_of c.args.place.now) vars b parts)) c.unless_part.result z) (sym c.in-Unless.is)
    (subst (λ (q : Place). Finds (run view t (unless_part (ex c.args.place.now.levels) q vars parts)) c.unless_part.result z) c.untested-free.ensures.at
    (subst (λ (n : ℕ). Finds (run view t (unless_part (ex n) (place_of free) vars parts)) c.unless_part.result z) c.untested-free.ensures.levels c.unless_part.ensures.gives))

pub returns-in_err-value-in-Case-clause-gives : goal.returns-in_err-value-in-Case-clause-gives
returns-in_err-value-in-Case-clause-gives g c =
    let view = g.L.Look.view c.args.look.now in let t = g.L.Look.trace c.args.look.now in let s = g.L.Look.trace c.case_value.new.look in
    let ex = g.X.Excerpts.excerpts c.args.place.now.levels in let p = place_of c.args.place.now in let vars = c.args.assigned.now in let parts = c.args.parts.now in
    let stop = c.in_err-value-in-Case.field-0.0 in
    let e = err_from_is_err_and c.from_residual.result c.from_residual.ensures.1 in
    rw (e.1, e.2)
    (subst (λ x. Stops (run view t (branches.branch ex p vars x parts)) stop s) (sym (c.in-Case.is ∙ ap Case (sym c.get.ensures)))
    (stops_bind view t (case_value ex p vars c.get.result.now) (λ v. chosen (takes_value ex vars v) (untested p) parts) stop s c.in_err-value-in-Case.ensures.gives))

pub returns-in_ok-value-in-Case-clause-gives : goal.returns-in_ok-value-in-Case-clause-gives
returns-in_ok-value-in-Case-clause-gives g c =
    let view = g.L.Look.view c.args.look.now in let t = g.L.Look.trace c.args.look.now in
    let s = g.L.Look.trace c.case_value.new.look in let z = g.L.Look.trace c.case_part.new.look in
    let exs = g.X.Excerpts.excerpts in let ex = exs c.args.place.now.levels in let p = place_of c.args.place.now in let vars = c.args.assigned.now in let parts = c.args.parts.now in
    let v = plain c.in_ok-value-in-Case.value in let free = c.untested-free.result in
    subst (λ x. Finds (run view t (branches.branch ex p vars x parts)) c.case_part.result z) (sym (c.in-Case.is ∙ ap Case (sym c.get.ensures)))
    (finds_then view t (case_value ex p vars c.get.result.now) (λ u. chosen (takes_value ex vars u) (untested p) parts) v s c.case_part.result z c.in_ok-value-in-Case.ensures.gives
    (subst (λ (q : Place). Finds (run view s (chosen (takes_value ex vars v) q parts)) c.case_part.result z) c.untested-free.ensures.at
    (subst (λ (n : ℕ). Finds (run view s (chosen (takes_value (exs n) vars v) (place_of free) parts)) c.case_part.result z) c.untested-free.ensures.levels
    (subst (λ w. Finds (run w s (chosen (takes_value (exs free.levels) vars v) (place_of free) parts)) c.case_part.result z) c.in_ok-value-in-Case.ensures.same c.case_part.ensures.gives))))
