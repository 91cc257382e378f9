use Rattle.std.proofs.Common.{◌∙◌, ap, sym, List}
use Rattle.site_base.specs.Plain.{Plain}
use Rattle.site_base.specs.declared.faults.SiteFault.{SiteFault}
use Rattle.read_record.proofs.QueryLaws.{run_gave}
use Rattle.read_record.specs.Queries.{Query, run}
use Rattle.liquid_values.specs.Standing.{place_of}
use Rattle.liquid_tags.specs.Elements.{loop_elements}
use Rattle.liquid_eval.specs.Loops as loops
use Rattle.liquid_eval.specs.Nodes.{entering}
use Rattle.liquid_eval.specs.Reached.{Reached}
use Rattle.liquid_eval.specs.Works.{work}
use Rattle.liquid_eval.specs.declared.work.Work.{Work}
use Rattle.liquid_eval.proofs.WorkLaws.{over_is}
use Rattle.liquid_eval.proofs.starting.start_for.Goals as goal

pub returns-clause-gives : goal.returns-clause-gives
returns-clause-gives g c =
    let ex = g.X.Excerpts.excerpts c.args.place.now.levels in let enter = entering g.X.Excerpts.excerpts c.args.place.now.levels in let p = place_of c.args.place.now in
    let s = c.args.state.now in let view = g.L.Look.view c.args.look.now in let t = g.L.Look.trace c.args.look.now in
    let u = g.L.Look.trace c.loop_elements.new.look in let elements = c.in_ok-elements.elements in let tag = c.args.tag.now in let parts = c.args.parts.now in
    let next : List Plain → Query SiteFault Reached = λ vs. loops.over enter p tag.name parts vs s in
    run_gave view t (loop_elements ex p s.assigned tag) next elements u c.in_ok-elements.ensures.gives
    ∙ ap (run view u) (sym (over_is enter p _ parts elements s)) ∙ ap (λ (w : Work). run view u (work enter p w s)) (sym c.over.ensures)
