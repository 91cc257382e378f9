use Rattle.std.proofs.Common.{◌≡◌, ◌∙◌, ◌+◌, ap, sym, refl, subst, drop}
use Rattle.std.proofs.lemmas.Result.{err_from_is_err_and}
use Rattle.read_record.specs.Answers.{Stops}
use Rattle.read_record.specs.Queries.{run}
use Rattle.liquid_values.specs.Standing.{place_of}
use Rattle.liquid_tags.specs.Elements as definitions
use Rattle.liquid_tags.specs.declared.elements.Numbers.{Numbers}
use Rattle.liquid_tags.proofs.WalkLaws.{walked, walk_stops, walk_ends}
use Rattle.liquid_tags.proofs.elements.given_numbers.Goals as goal

pub loop-part-init : goal.loop-part-init
loop-part-init g c =
    let ex = g.X.Excerpts.excerpts c.args.place.now.levels in let p = place_of c.args.place.now in let vars = c.args.assigned.now in
    record {
      same = refl;
      rest = ap (λ (made : Numbers). run (g.L.Look.view c.args.look.now) (g.L.Look.trace c.args.look.now) (definitions.numbers ex p vars made c.args.parts.now)) (sym c.none-numbers.ensures);
    }

pub returns-in_err-numbers-clause-gives : goal.returns-in_err-numbers-clause-gives
returns-in_err-numbers-clause-gives g c =
    let ex = g.X.Excerpts.excerpts c.args.place.now.levels in let p = place_of c.args.place.now in let vars = c.args.assigned.now in
    let s = g.L.Look.trace c.with_part.new.look in let stop = c.in_err-numbers.field-0.0 in
    let e = err_from_is_err_and c.from_residual.result c.from_residual.ensures.1 in
    rw (e.1, e.2)
    (subst (λ r. Stops r stop s) (sym c.loop-part.invariant.rest)
    (walk_stops (λ made qs. definitions.numbers ex p vars made qs) (λ made q. definitions.with_part ex p vars made q) (λ made q now. now) (λ _ _ _. refl)
    c.args.parts.now c.loop-part.part-index c.part-item.result c.loop-part-test.true c.part-item.is c.loop-part.numbers
    (g.L.Look.view c.loop-part.look) (g.L.Look.trace c.loop-part.look) stop s c.in_err-numbers.ensures.gives))

pub loop-part-preserved : goal.loop-part-preserved
loop-part-preserved g c =
    let ex = g.X.Excerpts.excerpts c.args.place.now.levels in let p = place_of c.args.place.now in let vars = c.args.assigned.now in
    let qs = c.args.parts.now in let i = c.loop-part.part-index in let now : Numbers = c.in_ok-numbers.numbers in
    let s = g.L.Look.trace c.with_part.new.look in
    let taken = walked (λ made qs. definitions.numbers ex p vars made qs) (λ made q. definitions.with_part ex p vars made q) (λ made q now. now) (λ _ _ _. refl)
    qs i c.part-item.result c.loop-part-test.true c.part-item.is c.loop-part.numbers (g.L.Look.view c.loop-part.look) (g.L.Look.trace c.loop-part.look) now s c.in_ok-numbers.ensures.gives in
    record {
      same = c.in_ok-numbers.ensures.same ∙ c.loop-part.invariant.same;
      rest = c.loop-part.invariant.rest ∙ taken ∙ ap (λ v. run v s (definitions.numbers ex p vars now (drop (i + 1) qs))) (sym c.in_ok-numbers.ensures.same);
    }

pub returns-clause-gives : goal.returns-clause-gives
returns-clause-gives g c =
    let ex = g.X.Excerpts.excerpts c.args.place.now.levels in let p = place_of c.args.place.now in let vars = c.args.assigned.now in
    c.loop-part.invariant.rest
    ∙ walk_ends (λ made qs. definitions.numbers ex p vars made qs) (λ made q. definitions.with_part ex p vars made q) (λ made q now. now) (λ _ _ _. refl)
    c.args.parts.now c.loop-part.part-index c.loop-part.numbers (g.L.Look.view c.loop-part.look) (g.L.Look.trace c.loop-part.look) c.loop-part-test.false
