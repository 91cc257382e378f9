use Rattle.std.proofs.Common.{◌≡◌}
use Rattle.round_core.specs.Meant.{given_by}
use Rattle.render_workers.proofs.RoundLaws.{SoFar}
use Rattle.render_workers.proofs.serial.go_over.Given as goal

abbrev pub invariant-loop-item : goal.invariant-loop-item
invariant-loop-item g l =
    let given = given_by (g.W.World.names l.fn.world) (g.W.World.sight l.fn.world) g.R.Meaning.ItemMeaning.item l.fn.memo in record {
      world : l.noted.world ≡ l.fn.world;
      so_far : SoFar given (g.W.World.fixed l.fn.world) l.item l.progress l.noted.entries l.fn.tally l.tally;
    }
