use Rattle.std.proofs.Common.{◌∙◌, ◌+◌, ◌++◌, ◌∷◌, [], ap, sym, refl, subst, drop, map, List}
use Rattle.std.proofs.lemmas.List.{map-append}
use Rattle.std.proofs.lemmas.Result.{err_from_is_err_and}
use Rattle.site_base.specs.Plain.{Plain}
use Rattle.site_base.specs.View.{plain}
use Rattle.read_record.specs.Answers.{Stops}
use Rattle.read_record.specs.Queries.{run}
use Rattle.liquid_values.specs.Operands.{operand}
use Rattle.liquid_values.specs.Standing.{place_of}
use Rattle.liquid_tags.proofs.WalkLaws.{walked, walk_stops}
use Rattle.liquid_tags.specs.Expressions.{values_behind}
use Rattle.liquid_tags.proofs.expressions.values.Goals as goal

pub returns-in_err-operand-clause-gives : goal.returns-in_err-operand-clause-gives
returns-in_err-operand-clause-gives g c =
    let ex = g.X.Excerpts.excerpts c.args.place.now.levels in let p = place_of c.args.place.now in let vars = c.args.assigned.now in
    let s = g.L.Look.trace c.operand.new.look in let stop = c.in_err-operand.field-0.0 in
    let e = err_from_is_err_and c.from_residual.result c.from_residual.ensures.1 in
    rw (e.1, e.2)
    (subst (λ r. Stops r stop s) (sym c.loop-each.invariant.rest)
    (walk_stops (values_behind ex p vars) (λ made e. operand ex p vars e) (λ made e v. made ++ v ∷ []) (λ _ _ _. refl)
    c.args.operands.now c.loop-each.each-index c.each-item.result c.loop-each-test.true c.each-item.is (map plain c.loop-each.values.items)
    (g.L.Look.view c.loop-each.look) (g.L.Look.trace c.loop-each.look) stop s c.in_err-operand.ensures.gives))

pub loop-each-preserved : goal.loop-each-preserved
loop-each-preserved g c =
    let ex = g.X.Excerpts.excerpts c.args.place.now.levels in let p = place_of c.args.place.now in let vars = c.args.assigned.now in
    let es = c.args.operands.now in let i = c.loop-each.each-index in let made : List Plain = map plain c.loop-each.values.items in
    let v : Plain = plain c.in_ok-operand.field-0 in let s = g.L.Look.trace c.operand.new.look in
    let taken = walked (values_behind ex p vars) (λ made e. operand ex p vars e) (λ made e v. made ++ v ∷ []) (λ _ _ _. refl)
    es i c.each-item.result c.loop-each-test.true c.each-item.is made (g.L.Look.view c.loop-each.look) (g.L.Look.trace c.loop-each.look) v s c.in_ok-operand.ensures.gives in
    record {
      same = c.in_ok-operand.ensures.same ∙ c.loop-each.invariant.same;
      rest = c.loop-each.invariant.rest ∙ taken
          ∙ ap (λ w. run w s (values_behind ex p vars (made ++ v ∷ []) (drop (i + 1) es))) (sym c.in_ok-operand.ensures.same)
          ∙ ap (λ (vs : List Plain). run (g.L.Look.view c.operand.new.look) s (values_behind ex p vars vs (drop (i + 1) es)))
          (sym (ap (map plain) c.in_ok-push.ensures.items ∙ map-append plain c.loop-each.values.items (c.in_ok-operand.field-0 ∷ [])));
    }
