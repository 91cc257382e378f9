use Rattle.std.proofs.Common.{◌≡◌, ◌∙◌, ◌+◌, true, false, refl, sym, ap, subst, drop}
use Rattle.std.proofs.lemmas.Result.{err_from_is_err_and}
use Rattle.read_record.specs.Answers.{Stops}
use Rattle.read_record.specs.Queries.{run, RanTo}
use Rattle.liquid_values.specs.Standing.{place_of}
use Rattle.liquid_tags.specs.Conditions.{tests}
use Rattle.liquid_tags.proofs.ConditionLaws.{tests_last, tests_stop, tests_end, tests_go_on}
use Rattle.liquid_tags.proofs.conditions.condition.Goals as goal

pub returns-in_err-holds-clause-gives : goal.returns-in_err-holds-clause-gives
returns-in_err-holds-clause-gives g c =
    let s = g.L.Look.trace c.test.new.look in
    let stop = c.in_err-holds.field-0.0 in
    let e = err_from_is_err_and c.from_residual.result c.from_residual.ensures.1 in
    rw (e.1, e.2)
    (subst (λ r. Stops r stop s) (sym c.loop-joined.invariant.rest)
    (tests_stop (g.X.Excerpts.excerpts c.args.place.now.levels) (place_of c.args.place.now) c.args.assigned.now c.as_slice-joined-items.result.now c.loop-joined.joined-index c.loop-joined.current.now c.joined-item.result c.loop-joined-test.true c.joined-item.is
    (g.L.Look.view c.loop-joined.look) (g.L.Look.trace c.loop-joined.look) s stop c.in_err-holds.ensures.gives))

pub returns-then-decides-clause-gives : goal.returns-then-decides-clause-gives
returns-then-decides-clause-gives g c =
    let s = g.L.Look.trace c.test.new.look in
    c.loop-joined.invariant.rest
    ∙ tests_end (g.X.Excerpts.excerpts c.args.place.now.levels) (place_of c.args.place.now) c.args.assigned.now c.as_slice-joined-items.result.now c.loop-joined.joined-index c.loop-joined.current.now c.joined-item.result c.loop-joined-test.true c.joined-item.is
    (g.L.Look.view c.loop-joined.look) (g.L.Look.trace c.loop-joined.look) s c.in_ok-holds.holds c.in_ok-holds.ensures.gives (sym c.decides.ensures ∙ c.if-decides.true)

pub loop-joined-preserved : goal.loop-joined-preserved
loop-joined-preserved g c =
    let ex = g.X.Excerpts.excerpts c.args.place.now.levels in
    let js = c.as_slice-joined-items.result.now in
    let s = g.L.Look.trace c.test.new.look in
    record {
      same = c.in_ok-holds.ensures.same ∙ c.loop-joined.invariant.same;
      rest = c.loop-joined.invariant.rest
          ∙ tests_go_on ex (place_of c.args.place.now) c.args.assigned.now js c.loop-joined.joined-index c.loop-joined.current.now c.joined-item.result c.loop-joined-test.true c.joined-item.is
          (g.L.Look.view c.loop-joined.look) (g.L.Look.trace c.loop-joined.look) s c.in_ok-holds.holds c.in_ok-holds.ensures.gives (sym c.decides.ensures ∙ c.if-decides.false)
          ∙ ap (λ v. run v s (tests ex (place_of c.args.place.now) c.args.assigned.now c.joined-item.result.test (drop (c.loop-joined.joined-index + 1) js))) (sym c.in_ok-holds.ensures.same);
    }
