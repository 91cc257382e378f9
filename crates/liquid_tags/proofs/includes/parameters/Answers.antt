use Rattle.std.proofs.Common.{◌≡◌, ◌∙◌, ◌+◌, List, ap, sym, refl, subst, drop}
use Rattle.std.proofs.lemmas.Result.{err_from_is_err_and}
use Rattle.site_base.specs.Plain.{Plain, Pairs, set}
use Rattle.site_base.specs.View.{plain}
use Rattle.read_record.specs.Answers.{Stops}
use Rattle.read_record.specs.Queries.{run}
use Rattle.liquid_grammar.specs.declared.expression.Parameter.{Parameter}
use Rattle.liquid_values.specs.Standing.{place_of}
use Rattle.liquid_tags.specs.Expressions.{expression}
use Rattle.liquid_tags.specs.Includes as includes
use Rattle.liquid_tags.proofs.WalkLaws.{walked, walk_stops, walk_ends}
use Rattle.liquid_tags.proofs.includes.parameters.Goals as goal

pub loop-param-init : goal.loop-param-init
loop-param-init g c =
    let ex = g.X.Excerpts.excerpts c.args.place.now.levels in let p = place_of c.args.place.now in let vars = c.args.assigned.now in
    record {
      same = refl;
      rest = ap (λ (made : Pairs). run (g.L.Look.view c.args.look.now) (g.L.Look.trace c.args.look.now) (includes.parameters ex p vars made c.args.params.now)) (sym c.new-made.ensures);
    }

pub returns-in_err-value-clause-gives : goal.returns-in_err-value-clause-gives
returns-in_err-value-clause-gives g c =
    let ex = g.X.Excerpts.excerpts c.args.place.now.levels in let p = place_of c.args.place.now in let vars = c.args.assigned.now in
    let s = g.L.Look.trace c.expression.new.look in let stop = c.in_err-value.field-0.0 in
    let e = err_from_is_err_and c.from_residual.result c.from_residual.ensures.1 in
    rw (e.1, e.2)
    (subst (λ r. Stops r stop s) (sym c.loop-param.invariant.rest)
    (walk_stops (λ made qs. includes.parameters ex p vars made qs) (λ made (q : Parameter). expression ex p vars q.value) (λ made q v. set q.name v made) (λ _ _ _. refl)
    c.args.params.now c.loop-param.param-index c.param-item.result c.loop-param-test.true c.param-item.is c.loop-param.made
    (g.L.Look.view c.loop-param.look) (g.L.Look.trace c.loop-param.look) stop s c.in_err-value.ensures.gives))

pub loop-param-preserved : goal.loop-param-preserved
loop-param-preserved g c =
    let ex = g.X.Excerpts.excerpts c.args.place.now.levels in let p = place_of c.args.place.now in let vars = c.args.assigned.now in
    let qs = c.args.params.now in let i = c.loop-param.param-index in let q = c.param-item.result in let old : Pairs = c.loop-param.made in let now : Pairs = c.set.new.self in
    let value : Plain = plain c.in_ok-value.value in
    let s = g.L.Look.trace c.expression.new.look in
    let taken = walked (λ made qs. includes.parameters ex p vars made qs) (λ made (q : Parameter). expression ex p vars q.value) (λ made q v. set q.name v made) (λ _ _ _. refl)
    qs i q c.loop-param-test.true c.param-item.is old (g.L.Look.view c.loop-param.look) (g.L.Look.trace c.loop-param.look) value s c.in_ok-value.ensures.gives in
    let made : now ≡ set q.name value old = c.in_ok-set.ensures.ok ∙ ap (λ x. set x value old) c.in_ok-share.ensures in
    record {
      same = c.in_ok-value.ensures.same ∙ c.loop-param.invariant.same;
      rest = c.loop-param.invariant.rest ∙ taken
          ∙ (λ j. run (sym c.in_ok-value.ensures.same j) s (includes.parameters ex p vars (sym made j) (drop (i + 1) qs)));
    }

pub returns-clause-gives : goal.returns-clause-gives
returns-clause-gives g c =
    let ex = g.X.Excerpts.excerpts c.args.place.now.levels in let p = place_of c.args.place.now in let vars = c.args.assigned.now in
    c.loop-param.invariant.rest
    ∙ walk_ends (λ made qs. includes.parameters ex p vars made qs) (λ made (q : Parameter). expression ex p vars q.value) (λ made q v. set q.name v made) (λ _ _ _. refl)
    c.args.params.now c.loop-param.param-index c.loop-param.made (g.L.Look.view c.loop-param.look) (g.L.Look.trace c.loop-param.look) c.loop-param-test.false
