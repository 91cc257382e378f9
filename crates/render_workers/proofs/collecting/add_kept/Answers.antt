use Rattle.std.proofs.Common.{◌∙◌}
use Rattle.std.specs.Prelude.{slice_get}
use Rattle.render_workers.proofs.TryLaws.{kept_turn}
use Rattle.render_workers.proofs.CollectLaws.{fresh-entry}
use Rattle.render_workers.proofs.collecting.add_kept.Goals as goal

pub returns : goal.returns
returns g c =
    let view = g.W.World.sight c.args.world.now c.args.item (slice_get c.args.progress.now.outs) in
    let e = c.in-Some.entry in
    kept_turn _ view g.M.ItemMeaning.item e c.args.progress.now _ _ _ _ c.in_ok-outcome.outcome c.name-2.result.now _ (c.in_ok-outcome.ensures ∙ c.outcome.ensures) c.name-2.ensures.name
    (fresh-entry _ view g.M.ItemMeaning.item c.args.noted.now.entries e c.name.result.now _ c.name.ensures c.in-Some.ensures.found c.requires.right) c.add.ensures
