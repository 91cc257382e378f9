use Rattle.std.proofs.Common.{◌≡◌, ◌∙◌, ap, sym, subst, List, ℕ}
use Rattle.site_base.specs.declared.faults.SiteFault.{SiteFault}
use Rattle.read_record.proofs.QueryLaws.{run_gave}
use Rattle.read_record.specs.Queries.{Query, Give, RanTo, run}
use Rattle.liquid_values.specs.Standing.{place_of}
use Rattle.liquid_tags.specs.States.{nothing_yet}
use Rattle.liquid_tags.specs.declared.state.State.{State}
use Rattle.liquid_eval.specs.Nodes.{nodes, entering}
use Rattle.liquid_eval.specs.Reached.{Reached, reached}
use Rattle.liquid_eval.proofs.evaluation.whole_text.Goals as goal

pub returns-clause-gives : goal.returns-clause-gives
returns-clause-gives g c =
    let ex = g.X.Excerpts.excerpts in let n = c.args.place.now.levels in let p = place_of c.args.place.now in let tree = c.args.nodes.now in
    let view = g.L.Look.view c.args.look.now in let t = g.L.Look.trace c.args.look.now in let u = g.L.Look.trace c.run_nodes.new.look in
    let r : Reached = reached c.run_nodes.new.state c.in_ok-run_nodes.field-0 in
    let next : Reached → Query SiteFault (List ℕ) = λ r. Give r.state.out in
    run_gave view t (nodes (ex n) (entering ex n) p tree nothing_yet) next r u
    (subst (λ (s : State). run view t (nodes (ex n) (entering ex n) p tree s) ≡ RanTo r u) c.new-state.ensures c.in_ok-run_nodes.ensures.gives)
    ∙ ap (λ (out : List ℕ). RanTo out u) (sym c.in_ok-finish.ensures)
