use Rattle.std.proofs.Common.{◌∙◌, ap, sym, Option}
use Rattle.site_base.specs.declared.faults.SiteFault.{SiteFault}
use Rattle.read_record.proofs.QueryLaws.{run_gave}
use Rattle.read_record.specs.Queries.{Query, run}
use Rattle.liquid_values.specs.Standing.{place_of}
use Rattle.liquid_tags.specs.Tables.{table}
use Rattle.liquid_tags.specs.declared.tables.Grid.{Grid}
use Rattle.liquid_eval.specs.Nodes.{entering}
use Rattle.liquid_eval.specs.Reached.{Reached}
use Rattle.liquid_eval.specs.TableRows.{rows_if}
use Rattle.liquid_eval.specs.Works.{work}
use Rattle.liquid_eval.specs.declared.work.Work.{Work}
use Rattle.liquid_eval.proofs.WorkLaws.{rows_are}
use Rattle.liquid_eval.proofs.starting.start_table.Goals as goal

pub returns-clause-gives : goal.returns-clause-gives
returns-clause-gives g c =
    let ex = g.X.Excerpts.excerpts c.args.place.now.levels in let enter = entering g.X.Excerpts.excerpts c.args.place.now.levels in let p = place_of c.args.place.now in
    let s = c.args.state.now in let view = g.L.Look.view c.args.look.now in let t = g.L.Look.trace c.args.look.now in
    let u = g.L.Look.trace c.table.new.look in let grid = c.in_ok-grid.grid in let tag = c.args.tag.now in let parts = c.args.parts.now in
    let next : Option Grid → Query SiteFault Reached = λ o. rows_if enter p tag.name parts s o in
    run_gave view t (table ex p s.assigned tag) next grid u c.in_ok-grid.ensures.gives
    ∙ ap (run view u) (sym (rows_are enter p _ parts grid s)) ∙ ap (λ (w : Work). run view u (work enter p w s)) (sym c.rows.ensures)
