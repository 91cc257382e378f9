use Rattle.std.proofs.Common.{◌∙◌, ◌+◌, ap, sym, refl, subst, drop}
use Rattle.std.proofs.lemmas.Result.{err_from_is_err_and}
use Rattle.site_base.specs.Plain.{Plain}
use Rattle.site_base.specs.View.{plain}
use Rattle.read_record.specs.Answers.{Stops}
use Rattle.read_record.specs.Queries.{run}
use Rattle.liquid_values.specs.Standing.{place_of}
use Rattle.liquid_grammar.specs.declared.expression.Filter.{Filter}
use Rattle.liquid_tags.proofs.WalkLaws.{walked, walk_stops}
use Rattle.liquid_tags.specs.Expressions.{filtered, filtered_by, meaning_named}
use Rattle.liquid_tags.proofs.expressions.filtered.Goals as goal

pub returns-in_err-value-clause-gives : goal.returns-in_err-value-clause-gives
returns-in_err-value-clause-gives g c =
    let ex = g.X.Excerpts.excerpts c.args.place.now.levels in let p = place_of c.args.place.now in let vars = c.args.assigned.now in
    let s = g.L.Look.trace c.filtered_by.new.look in let stop = c.in_err-value.field-0.0 in
    let e = err_from_is_err_and c.from_residual.result c.from_residual.ensures.1 in
    rw (e.1, e.2)
    (subst (λ r. Stops r stop s) (sym c.loop-filter.invariant.rest)
    (walk_stops (λ v fs. filtered ex p vars fs v) (λ v (f : Filter). filtered_by ex p vars (meaning_named f.name) f v) (λ v f w. w) (λ _ _ _. refl)
    c.args.filters.now c.loop-filter.filter-index c.filter-item.result c.loop-filter-test.true c.filter-item.is (plain c.loop-filter.value)
    (g.L.Look.view c.loop-filter.look) (g.L.Look.trace c.loop-filter.look) stop s c.in_err-value.ensures.gives))

pub loop-filter-preserved : goal.loop-filter-preserved
loop-filter-preserved g c =
    let ex = g.X.Excerpts.excerpts c.args.place.now.levels in let p = place_of c.args.place.now in let vars = c.args.assigned.now in
    let fs = c.args.filters.now in let i = c.loop-filter.filter-index in let w : Plain = plain c.in_ok-value.value in let s = g.L.Look.trace c.filtered_by.new.look in
    let taken = walked (λ v fs. filtered ex p vars fs v) (λ v (f : Filter). filtered_by ex p vars (meaning_named f.name) f v) (λ v f w. w) (λ _ _ _. refl)
    fs i c.filter-item.result c.loop-filter-test.true c.filter-item.is (plain c.loop-filter.value) (g.L.Look.view c.loop-filter.look) (g.L.Look.trace c.loop-filter.look) w s c.in_ok-value.ensures.gives in
    record {
      same = c.in_ok-value.ensures.same ∙ c.loop-filter.invariant.same;
      rest = c.loop-filter.invariant.rest ∙ taken ∙ ap (λ u. run u s (filtered ex p vars (drop (i + 1) fs) w)) (sym c.in_ok-value.ensures.same);
    }
