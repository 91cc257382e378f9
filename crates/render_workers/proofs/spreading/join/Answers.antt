use Rattle.round_core.specs.Meant.{given_by}
use Rattle.render_workers.proofs.WorkerLaws.{part-joined}
use Rattle.render_workers.proofs.spreading.join.Goals as goal

pub returns-clause-part : goal.returns-clause-part
returns-clause-part g c =
    let w = c.args.world.now in
    let given = given_by (g.W.World.names w) (g.W.World.sight w) g.M.ItemMeaning.item c.args.memo.now in
    part-joined given c.args.table.now _ _ _ _ _ _ _ _ _ c.requires.all c.requires.part c.join.ensures.joined c.in_ok-join.ensures c.in_ok-append.ensures.items
