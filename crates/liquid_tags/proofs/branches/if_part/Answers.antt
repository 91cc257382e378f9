use Rattle.std.proofs.Common.{◌≡◌, ◌∙◌, true, false, refl, sym, ap, subst}
use Rattle.std.proofs.lemmas.Result.{err_from_is_err_and}
use Rattle.read_record.specs.Answers.{Stops}
use Rattle.read_record.specs.Queries.{run, RanTo}
use Rattle.liquid_values.specs.Standing.{place_of}
use Rattle.liquid_tags.specs.Branches.{if_part, takes_test}
use Rattle.liquid_tags.proofs.BranchLaws.{chosen_stops, chosen_taken, chosen_passed}
use Rattle.liquid_tags.proofs.NodeLaws.{count_behind}
use Rattle.liquid_tags.proofs.branches.if_part.Goals as goal

pub loop-first-smaller : goal.loop-first-smaller
loop-first-smaller g c =
    let first = c.in-Some.first in
    count_behind c.loop-first.rest first.line first.part.now first.body first.behind c.in-Some.ensures

pub returns-in_err-is_taken-clause-gives : goal.returns-in_err-is_taken-clause-gives
returns-in_err-is_taken-clause-gives g c =
    let first = c.in-Some.first in
    let s = g.L.Look.trace c.takes_test.new.look in
    let stop = c.in_err-is_taken.field-0.0 in
    let e = err_from_is_err_and c.from_residual.result c.from_residual.ensures.1 in
    rw (e.1, e.2)
    (subst (λ r. Stops r stop s) (sym c.loop-first.invariant.rest)
    (chosen_stops (λ n. takes_test (g.X.Excerpts.excerpts n) c.args.assigned.now) c.at_line-inside.result.levels c.args.place.now.levels (place_of c.args.place.now) (place_of c.at_line-inside.result)
    c.loop-first.rest first.line first.part.now first.body first.behind c.in-Some.ensures c.at_line-inside.ensures.at c.at_line-inside.ensures.levels
    (g.L.Look.view c.loop-first.look) (g.L.Look.trace c.loop-first.look) s stop c.in_err-is_taken.ensures.gives))

pub returns-then-is_taken-clause-gives : goal.returns-then-is_taken-clause-gives
returns-then-is_taken-clause-gives g c =
    let first = c.in-Some.first in
    let s = g.L.Look.trace c.takes_test.new.look in
    c.loop-first.invariant.rest
    ∙ chosen_taken (λ n. takes_test (g.X.Excerpts.excerpts n) c.args.assigned.now) c.at_line-inside.result.levels c.args.place.now.levels (place_of c.args.place.now) (place_of c.at_line-inside.result)
    c.loop-first.rest first.line first.part.now first.body first.behind c.in-Some.ensures c.at_line-inside.ensures.at c.at_line-inside.ensures.levels
    (g.L.Look.view c.loop-first.look) (g.L.Look.trace c.loop-first.look) s (c.in_ok-is_taken.ensures.gives ∙ ap (λ b. RanTo b s) c.if-is_taken.true)

pub loop-first-preserved : goal.loop-first-preserved
loop-first-preserved g c =
    let first = c.in-Some.first in
    let ex = g.X.Excerpts.excerpts c.args.place.now.levels in
    let s = g.L.Look.trace c.takes_test.new.look in
    record {
      same = c.in_ok-is_taken.ensures.same ∙ c.loop-first.invariant.same;
      rest = c.loop-first.invariant.rest
          ∙ chosen_passed (λ n. takes_test (g.X.Excerpts.excerpts n) c.args.assigned.now) c.at_line-inside.result.levels c.args.place.now.levels (place_of c.args.place.now) (place_of c.at_line-inside.result)
          c.loop-first.rest first.line first.part.now first.body first.behind c.in-Some.ensures c.at_line-inside.ensures.at c.at_line-inside.ensures.levels
          (g.L.Look.view c.loop-first.look) (g.L.Look.trace c.loop-first.look) s (c.in_ok-is_taken.ensures.gives ∙ ap (λ b. RanTo b s) c.if-is_taken.false)
          ∙ ap (λ v. run v s (if_part ex (place_of c.args.place.now) c.args.assigned.now first.behind)) (sym c.in_ok-is_taken.ensures.same);
    }
