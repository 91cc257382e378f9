use Rattle.std.proofs.Common.{◌≡◌, take}
use Rattle.round_core.specs.Meant.{given_by}
use Rattle.round_core.specs.States.{nobody}
use Rattle.round_core.specs.Steps.{Reaches}
use Rattle.round_core.specs.Facts.{Facts}
use Rattle.round_core.proofs.running.run.Given as goal

abbrev pub invariant-loop-event : goal.invariant-loop-event
invariant-loop-event g l =
    (let given = given_by (g.W.World.names l.fn.world) (g.W.World.sight l.fn.world) g.R.Meaning.ItemMeaning.item l.fn.memo in
    record {
      index : l.place ≡ l.event-index;
      reached : Reaches given l.fn.workers nobody (take l.event-index l.fn.events) l.core;
      facts : Facts given l.core;
    })
