use Rattle.std.proofs.Common.{◌≡◌, length, drop}
use Rattle.round_core.specs.Meant.{given_by}
use Rattle.render_workers.specs.Tallies.{Grows}
use Rattle.render_workers.proofs.CollectLaws.{Collected}
use Rattle.render_workers.proofs.collecting.collect.Given as goal

abbrev pub invariant-loop-item : goal.invariant-loop-item
invariant-loop-item g l =
    let given = given_by (g.W.World.names l.fn.world) (g.W.World.sight l.fn.world) g.R.Meaning.ItemMeaning.item l.fn.memo in record {
      room : length l.places.items ≡ length (g.W.World.names l.fn.world);
      world : l.noted.world ≡ l.fn.world;
      grown : Grows l.fn.tally l.tally;
      collected : Collected given (g.W.World.fixed l.fn.world) l.item l.progress l.noted.entries l.fn.tally l.tally (drop l.item l.places.items);
    }
