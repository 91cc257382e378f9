use Rattle.std.proofs.Common.{◌∙◌, ◌+◌, ap, sym, refl, subst, [], drop}
use Rattle.std.proofs.lemmas.Result.{err_from_is_err_and}
use Rattle.read_record.specs.Answers.{Stops}
use Rattle.read_record.specs.Queries.{run}
use Rattle.liquid_values.specs.OperandSteps.{stack_of, last_found}
use Rattle.liquid_values.specs.Standing.{place_of}
use Rattle.liquid_values.proofs.StepLaws.{operand-found, step_taken, step_stops}
use Rattle.liquid_values.proofs.operands.found.Goals as goal

pub loop-step-init : goal.loop-step-init
loop-step-init g c =
    let ex = g.X.Excerpts.excerpts c.args.place.now.levels in let p = place_of c.args.place.now in let vars = c.args.assigned.now in
    record {
      same = refl;
      rest = ap (run (g.L.Look.view c.args.look.now) (g.L.Look.trace c.args.look.now))
          (sym (operand-found ex p vars c.args.operand.now) ∙ ap (λ ss. last_found ex p vars ss []) (sym c.steps-step-items.ensures)
          ∙ ap (λ st. last_found ex p vars c.steps-step-items.result.now st) (sym c.new-stack.ensures));
    }

pub returns-in_err-take_step-clause-gives : goal.returns-in_err-take_step-clause-gives
returns-in_err-take_step-clause-gives g c =
    let ex = g.X.Excerpts.excerpts c.args.place.now.levels in let p = place_of c.args.place.now in let vars = c.args.assigned.now in
    let s = g.L.Look.trace c.take_step.new.look in let stop = c.in_err-take_step.field-0.0 in
    let e = err_from_is_err_and c.from_residual.result c.from_residual.ensures.1 in
    rw (e.1, e.2)
    (subst (λ r. Stops r stop s) (sym c.loop-step.invariant.rest)
    (step_stops ex p vars c.steps-step-items.result.now c.loop-step.step-index c.step-item.result (stack_of c.loop-step.stack) c.loop-step-test.true c.step-item.is
    (g.L.Look.view c.loop-step.look) (g.L.Look.trace c.loop-step.look) s stop c.in_err-take_step.ensures.gives))

pub loop-step-preserved : goal.loop-step-preserved
loop-step-preserved g c =
    let ex = g.X.Excerpts.excerpts c.args.place.now.levels in let p = place_of c.args.place.now in let vars = c.args.assigned.now in
    let ss = c.steps-step-items.result.now in let i = c.loop-step.step-index in
    let s = g.L.Look.trace c.take_step.new.look in
    let taken = step_taken ex p vars ss i c.step-item.result (stack_of c.loop-step.stack) c.loop-step-test.true c.step-item.is (g.L.Look.view c.loop-step.look) (g.L.Look.trace c.loop-step.look) s (stack_of c.take_step.new.stack) c.in_ok-take_step.ensures.gives in
    record {
      same = c.in_ok-take_step.ensures.same ∙ c.loop-step.invariant.same;
      rest = c.loop-step.invariant.rest ∙ taken ∙ ap (λ v. run v s (last_found ex p vars (drop (i + 1) ss) (stack_of c.take_step.new.stack))) (sym c.in_ok-take_step.ensures.same);
    }
