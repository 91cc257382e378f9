use Rattle.std.proofs.Common.{◌≡◌, ◌∙◌, ◌+◌, true, false, refl, sym, ap, subst, drop}
use Rattle.std.proofs.lemmas.Result.{err_from_is_err_and}
use Rattle.site_base.specs.View.{plain}
use Rattle.read_record.specs.Answers.{Stops}
use Rattle.read_record.specs.Queries.{run, RanTo}
use Rattle.liquid_values.specs.Standing.{place_of}
use Rattle.liquid_tags.specs.Branches.{equals_one}
use Rattle.liquid_tags.proofs.BranchLaws.{equals_none, equals_stops, equals_here, equals_later}
use Rattle.liquid_tags.proofs.branches.equals_one.Goals as goal

pub returns-in_err-other-clause-gives : goal.returns-in_err-other-clause-gives
returns-in_err-other-clause-gives g c =
    let s = g.L.Look.trace c.operand.new.look in
    let stop = c.in_err-other.field-0.0 in
    let e = err_from_is_err_and c.from_residual.result c.from_residual.ensures.1 in
    rw (e.1, e.2)
    (subst (λ r. Stops r stop s) (sym c.loop-each.invariant.rest)
    (equals_stops (g.X.Excerpts.excerpts c.args.place.now.levels) (place_of c.args.place.now) c.args.assigned.now (plain c.args.value.now) c.args.operands.now c.loop-each.each-index c.each-item.result c.loop-each-test.true c.each-item.is
    (g.L.Look.view c.loop-each.look) (g.L.Look.trace c.loop-each.look) s stop c.in_err-other.ensures.gives))

pub returns-then-is_same-clause-gives : goal.returns-then-is_same-clause-gives
returns-then-is_same-clause-gives g c =
    let s = g.L.Look.trace c.operand.new.look in
    c.loop-each.invariant.rest
    ∙ equals_here (g.X.Excerpts.excerpts c.args.place.now.levels) (place_of c.args.place.now) c.args.assigned.now (plain c.args.value.now) c.args.operands.now c.loop-each.each-index c.each-item.result c.loop-each-test.true c.each-item.is
    (g.L.Look.view c.loop-each.look) (g.L.Look.trace c.loop-each.look) s (plain c.in_ok-other.other) c.in_ok-other.ensures.gives (sym c.is_same.ensures ∙ c.if-is_same.true)

pub loop-each-preserved : goal.loop-each-preserved
loop-each-preserved g c =
    let ex = g.X.Excerpts.excerpts c.args.place.now.levels in
    let s = g.L.Look.trace c.operand.new.look in
    record {
      same = c.in_ok-other.ensures.same ∙ c.loop-each.invariant.same;
      rest = c.loop-each.invariant.rest
          ∙ equals_later ex (place_of c.args.place.now) c.args.assigned.now (plain c.args.value.now) c.args.operands.now c.loop-each.each-index c.each-item.result c.loop-each-test.true c.each-item.is
          (g.L.Look.view c.loop-each.look) (g.L.Look.trace c.loop-each.look) s (plain c.in_ok-other.other) c.in_ok-other.ensures.gives (sym c.is_same.ensures ∙ c.if-is_same.false)
          ∙ ap (λ v. run v s (equals_one ex (place_of c.args.place.now) c.args.assigned.now (plain c.args.value.now) (drop (c.loop-each.each-index + 1) c.args.operands.now))) (sym c.in_ok-other.ensures.same);
    }

pub returns-clause-gives : goal.returns-clause-gives
returns-clause-gives g c =
    c.loop-each.invariant.rest
    ∙ ap (run (g.L.Look.view c.loop-each.look) (g.L.Look.trace c.loop-each.look))
    (equals_none (g.X.Excerpts.excerpts c.args.place.now.levels) (place_of c.args.place.now) c.args.assigned.now (plain c.args.value.now) c.args.operands.now c.loop-each.each-index c.loop-each-test.false)
