use Rattle.std.proofs.Common.{◌≡◌, None, refl, subst}
use Rattle.read_record.specs.Answers.{Renders}
use Rattle.read_record.specs.Queries.{View, run}
use Rattle.render_workers.proofs.anew.render.Goals as goal

pub returns-clause-rendered : goal.returns-clause-rendered
returns-clause-rendered g c =
    let view = g.W.World.sight c.args.world.now c.args.item (g.F.Finished.outcomes c.args.outs.now) in
    let same : g.W.World.sight c.new-look.result.world.now c.new-look.result.reader (g.F.Finished.outcomes c.new-look.result.outs.now) ≡ view = rw (c.new-look.ensures.world, c.new-look.ensures.reader, c.new-look.ensures.outs) refl in
    rw c.name.ensures (subst (λ (v : View). Renders (run v None (g.R.Meaning.ItemMeaning.item c.name.result.now)) c.render.result None) same c.render.ensures.outcome)
