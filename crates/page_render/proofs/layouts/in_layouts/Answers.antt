use Rattle.std.proofs.Common.{◌≡◌, ◌∙◌, ◌+◌, ◌-◌, Some, ap, arith, subst, sym}
use Rattle.std.proofs.lemmas.Result.{err_from_is_err_and}
use Rattle.site_base.specs.declared.faults.FaultKind.TheVariants.{Nesting}
use Rattle.liquid_values.specs.Places.{site_fault}
use Rattle.page_render.proofs.LayoutLaws.{at_end, at_last, stopped, went_on}
use Rattle.page_render.specs.Layouts.{in_layouts}
use Rattle.read_record.specs.Answers.{Stops}
use Rattle.read_record.specs.Queries.{FailedAt, run}
use Rattle.page_render.proofs.layouts.in_layouts.Goals as goal

pub returns-in-None-clause-gives : goal.returns-in-None-clause-gives
returns-in-None-clause-gives g c =
    let k = c.loop-left.left in
    let number : k ≡ (k - 1) + 1 = omega (arith, c.loop-left-test.true) in
    c.loop-left.invariant.rest ∙ at_end c.args.item.now c.args.own.now (g.L.Look.view c.loop-left.look) (g.L.Look.trace c.loop-left.look) (k - 1) c.loop-left.around k number c.in-None.is

pub returns-in_err-around-clause-gives : goal.returns-in_err-around-clause-gives
returns-in_err-around-clause-gives g c =
    let n = c.args.item.now in let own = c.args.own.now in let a = c.loop-left.around in let k = c.loop-left.left in
    let view = g.L.Look.view c.loop-left.look in let t = g.L.Look.trace c.loop-left.look in
    let s = g.L.Look.trace c.in_layout.new.look in let stop = c.in_err-around.field-0.0 in
    let name = c.in_ok-name-in-Some.name in
    let number : k ≡ (k - 1) + 1 = omega (arith, c.loop-left-test.true) in
    let is : a.next ≡ Some name = c.in-Some.is ∙ ap Some (sym c.in_ok-name-in-Some.ensures) in
    let e = err_from_is_err_and c.from_residual-in_err-around.result c.from_residual-in_err-around.ensures.1 in
    rw (e.1, e.2)
    (subst (λ r. Stops r stop s) (sym c.loop-left.invariant.rest)
    (stopped n own view t (k - 1) a k number name is stop s c.in_err-around.ensures.gives))

pub loop-left-preserved : goal.loop-left-preserved
loop-left-preserved g c =
    let n = c.args.item.now in let own = c.args.own.now in let a = c.loop-left.around in let k = c.loop-left.left in
    let view = g.L.Look.view c.loop-left.look in let t = g.L.Look.trace c.loop-left.look in
    let s = g.L.Look.trace c.in_layout.new.look in let b = c.in_ok-around.around in
    let name = c.in_ok-name-in-Some.name in
    let number : k ≡ (k - 1) + 1 = omega (arith, c.loop-left-test.true) in
    let is : a.next ≡ Some name = c.in-Some.is ∙ ap Some (sym c.in_ok-name-in-Some.ensures) in
    let taken = went_on n own view t (k - 1) a k number name is b s c.in_ok-around.ensures.gives in
    record {
      same = c.in_ok-around.ensures.same ∙ c.loop-left.invariant.same;
      rest = c.loop-left.invariant.rest ∙ taken ∙ ap (λ u. run u s (in_layouts n own (k - 1) b)) (sym c.in_ok-around.ensures.same);
    }

pub returns-clause-gives : goal.returns-clause-gives
returns-clause-gives g c =
    let n = c.args.item.now in let own = c.args.own.now in let k = c.loop-left.left in
    let view = g.L.Look.view c.loop-left.look in let t = g.L.Look.trace c.loop-left.look in
    let none : k ≡ 0 = omega (arith, c.loop-left-test.false) in
    c.loop-left.invariant.rest ∙ at_last n own view t c.loop-left.around k none ∙ ap (λ p. FailedAt (site_fault p 0 Nesting) t) (sym c.in_ok-copy.ensures)
