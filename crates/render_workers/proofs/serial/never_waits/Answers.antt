use Rattle.round_core.specs.Meant.{given_by}
use Rattle.render_workers.proofs.FoldLaws.{told}
use Rattle.render_workers.proofs.serial.never_waits.Goals as goal

pub returns : goal.returns
returns g c = let w = c.args.world.now in told (given_by (g.W.World.names w) (g.W.World.sight w) g.M.ItemMeaning.item c.args.memo.now) (g.met.W.World.lawful w) (g.W.World.fixed w)
