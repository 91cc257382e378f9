use Rattle.std.proofs.Common.{◌≡◌}
use Rattle.round_core.specs.Meant.{given_by}
use Rattle.render_workers.specs.Worked.{IsWork}
use Rattle.render_workers.proofs.worker.go_through.Given as goal

abbrev pub invariant-loop-item : goal.invariant-loop-item
invariant-loop-item g l = record {
  lent : l.worker.lent ≡ record { entries = l.fn.memo; world = l.fn.world };
  work : IsWork (given_by (g.W.World.names l.fn.world) (g.W.World.sight l.fn.world) g.R.Meaning.ItemMeaning.item l.fn.memo) l.fn.table l.worker;
}
