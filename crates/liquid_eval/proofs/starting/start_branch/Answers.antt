use Rattle.std.proofs.Common.{◌∙◌, ap, sym, Option}
use Rattle.site_base.specs.declared.faults.SiteFault.{SiteFault}
use Rattle.liquid_grammar.specs.Trees.{Tree}
use Rattle.read_record.proofs.QueryLaws.{run_gave}
use Rattle.read_record.specs.Queries.{Query, run}
use Rattle.liquid_values.specs.Standing.{place_of}
use Rattle.liquid_tags.specs.Branches.{branch}
use Rattle.liquid_eval.specs.Nodes.{entering}
use Rattle.liquid_eval.specs.Reached.{Reached, enter_part}
use Rattle.liquid_eval.specs.Works.{work}
use Rattle.liquid_eval.specs.declared.work.Work.{Work}
use Rattle.liquid_eval.proofs.WorkLaws.{inside_is}
use Rattle.liquid_eval.proofs.starting.start_branch.Goals as goal

pub returns-clause-gives : goal.returns-clause-gives
returns-clause-gives g c =
    let ex = g.X.Excerpts.excerpts c.args.place.now.levels in let enter = entering g.X.Excerpts.excerpts c.args.place.now.levels in let p = place_of c.args.place.now in
    let s = c.args.state.now in let view = g.L.Look.view c.args.look.now in let t = g.L.Look.trace c.args.look.now in
    let u = g.L.Look.trace c.branch-alloc.new.look in let taken = c.in_ok-taken.taken in
    let next : Option Tree → Query SiteFault Reached = λ body. enter_part enter p s body in
    run_gave view t (branch ex p s.assigned c.args.block.now c.args.parts.now) next taken u c.in_ok-taken.ensures.gives
    ∙ ap (run view u) (sym (inside_is enter p s taken)) ∙ ap (λ (w : Work). run view u (work enter p w s)) (sym c.inside.ensures)
