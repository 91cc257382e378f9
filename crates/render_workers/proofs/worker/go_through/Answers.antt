use Rattle.std.proofs.Common.{rules}
use Rattle.round_core.specs.Meant.{given_by}
use Rattle.render_workers.proofs.WorkerLaws.{knows-nothing}
use Rattle.render_workers.proofs.worker.go_through.Goals as goal

pub loop-item-init : goal.loop-item-init
loop-item-init g c =
    let w = c.args.world.now in
    record {
      lent = c.in_ok-lend.ensures;
      work = (search rules, knows-nothing (given_by (g.W.World.names w) (g.W.World.sight w) g.R.Meaning.ItemMeaning.item c.args.memo.now) c.in_ok-new.field-0 c.in_ok-new.ensures);
    }
