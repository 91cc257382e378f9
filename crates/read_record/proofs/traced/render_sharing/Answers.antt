use Rattle.std.proofs.Common.{◌≡◌, refl, ap, Some}
use Rattle.read_record.proofs.QueryLaws.{run_needs}
use Rattle.read_record.proofs.TraceLaws.{left_at, told}
use Rattle.read_record.proofs.traced.render_sharing.Goals as goal

pub new-requires-in-Out : goal.new-requires-in-Out
new-requires-in-Out g c =
    let view = g.W.World.sight c.args.world.now c.args.item (g.F.Finished.outcomes c.args.outs.now) in
    let same : g.W.World.sight c.new-look.result.world.now c.new-look.result.reader (g.F.Finished.outcomes c.new-look.result.outs.now) ≡ view = rw (c.new-look.ensures.world, c.new-look.ensures.reader, c.new-look.ensures.outs) refl in
    let l = left_at view _ _ (g.R.Meaning.ItemMeaning.item c.name-name.result.now) c.in-Out.outcome c.render-rendered.new.look.reads same (ap Some c.new-look.ensures.reads) c.in-Out.ensures.outcome in
    rw (c.into_parts-reads.ensures, c.in-Ok.ensures) l.certified

pub returns-in-Out-clause-traced : goal.returns-in-Out-clause-traced
returns-in-Out-clause-traced g c =
    let view = g.W.World.sight c.args.world.now c.args.item (g.F.Finished.outcomes c.args.outs.now) in
    let same : g.W.World.sight c.new-look.result.world.now c.new-look.result.reader (g.F.Finished.outcomes c.new-look.result.outs.now) ≡ view = rw (c.new-look.ensures.world, c.new-look.ensures.reader, c.new-look.ensures.outs) refl in
    let l = left_at view _ _ (g.R.Meaning.ItemMeaning.item c.name-name.result.now) c.in-Out.outcome c.render-rendered.new.look.reads same (ap Some c.new-look.ensures.reads) c.in-Out.ensures.outcome in
    rw c.name-name.ensures (told view _ c.in-Ok.kept_name _ c.new-in-Out.result c.render-rendered.new.look.reads c.into_parts-reads.result.0 c.in-Out.outcome c.in-Ok.ensures c.new-in-Out.ensures c.into_parts-reads.ensures l)

pub returns-in-Needs-clause-traced : goal.returns-in-Needs-clause-traced
returns-in-Needs-clause-traced g c =
    let view = g.W.World.sight c.args.world.now c.args.item (g.F.Finished.outcomes c.args.outs.now) in
    let same : g.W.World.sight c.new-look.result.world.now c.new-look.result.reader (g.F.Finished.outcomes c.new-look.result.outs.now) ≡ view = rw (c.new-look.ensures.world, c.new-look.ensures.reader, c.new-look.ensures.outs) refl in
    rw (c.name-name.ensures, ← same) (run_needs _ _ _ (g.R.Meaning.ItemMeaning.item c.name-name.result.now) c.in-Needs.item c.in-Needs.ensures.outcome)
