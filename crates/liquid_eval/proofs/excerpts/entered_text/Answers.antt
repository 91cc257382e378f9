use Rattle.std.proofs.Common.{◌≡◌, ◌∙◌, ap, sym, subst, List, ℕ}
use Rattle.site_base.specs.declared.faults.SiteFault.{SiteFault}
use Rattle.read_record.proofs.QueryLaws.{run_gave}
use Rattle.read_record.specs.Queries.{Query, Give, RanTo, run}
use Rattle.liquid_grammar.specs.Trees.{Tree}
use Rattle.liquid_values.specs.Places.{Place}
use Rattle.liquid_values.specs.Standing.{place_of}
use Rattle.liquid_tags.specs.States.{nothing_yet}
use Rattle.liquid_tags.specs.declared.state.State.{State}
use Rattle.liquid_eval.specs.Excerpts.{start_of}
use Rattle.liquid_eval.specs.Nodes.{entering, none_made}
use Rattle.liquid_eval.specs.Reached.{Reached, reached}
use Rattle.liquid_eval.proofs.excerpts.entered_text.Goals as goal

pub returns-clause-gives : goal.returns-clause-gives
returns-clause-gives g c =
    let enter = entering none_made c.args.place.now.levels in let p = place_of c.args.place.now in let n = c.args.item.now in
    let view = g.L.Look.view c.args.look.now in let t = g.L.Look.trace c.args.look.now in
    let levels = c.args.place.now.levels in let u = g.L.Look.trace c.enter.new.look in let start = c.whole_place-start.result in let tree = c.of_shared-nodes.result in
    let r : Reached = reached c.enter.new.state c.in_ok-enter.field-0 in
    let next : Reached → Query SiteFault (List ℕ) = λ r. Give r.state.out in
    run_gave view t (enter p (start_of n) c.args.template.now nothing_yet) next r u
    (subst (λ (s : State). run view t (enter p (start_of n) c.args.template.now s) ≡ RanTo r u) c.new-state.ensures
    (subst (λ (x : Tree). run view t (enter p (start_of n) x c.new-state.result) ≡ RanTo r u) c.of_shared-nodes.ensures
    (subst (λ (q : Place). run view t (enter p q tree c.new-state.result) ≡ RanTo r u) c.whole_place-start.ensures.at
    (subst (λ (m : ℕ). run view t (entering none_made m p (place_of start) tree c.new-state.result) ≡ RanTo r u) c.whole_place-start.ensures.levels c.in_ok-enter.ensures.gives))))
    ∙ ap (λ (out : List ℕ). RanTo out u) (sym c.in_ok-finish.ensures)
