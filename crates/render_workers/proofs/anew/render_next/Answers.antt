use Rattle.std.proofs.Common.{None, ap}
use Rattle.std.specs.Prelude.{slice_get}
use Rattle.site_base.specs.declared.item_name.ItemName.{ItemName}
use Rattle.render_workers.proofs.FoldLaws.{misses-nothing}
use Rattle.render_workers.proofs.AnewLaws.{needs_nobody, rendered_turn}
use Rattle.render_workers.specs.Whys.{why_for}
use Rattle.render_workers.proofs.anew.render_next.Goals as goal

pub returns-in_ok-copy-in-Out-clause-turn : goal.returns-in_ok-copy-in-Out-clause-turn
returns-in_ok-copy-in-Out-clause-turn g c =
    let view = g.W.World.sight c.args.world.now c.args.item (slice_get c.args.progress.now.outs) in
    rendered_turn _ c.name-name.result.now c.name-name.ensures view g.R.Meaning.ItemMeaning.item c.in-Out.outcome c.args.progress.now _ _ (ap (λ (n : ItemName). why_for n None) c.in_ok-copy-in-Out.ensures) _ _ c.add_rendered.result
    c.in-Out.ensures.rendered c.in-Out.ensures.tallied c.add_rendered.ensures

pub unreachable-requires : goal.unreachable-requires
unreachable-requires g c =
    let w = c.args.world.now in
    let known = slice_get c.args.progress.now.outs in
    needs_nobody (g.W.World.names w) c.args.item c.requires.item (g.W.World.sight w c.args.item known) g.R.Meaning.ItemMeaning.item _
    (misses-nothing (g.W.World.sight w) (g.met.W.World.lawful w) c.args.item known c.requires.done) c.in-Needs.ensures.rendered
