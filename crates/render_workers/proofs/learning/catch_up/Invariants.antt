use Rattle.std.proofs.Common.{◌≡◌}
use Rattle.round_core.specs.Meant.{given_by}
use Rattle.render_workers.specs.Worked.{StaysRight}
use Rattle.render_workers.proofs.learning.catch_up.Given as goal

abbrev pub invariant-loop-item : goal.invariant-loop-item
invariant-loop-item g l = record {
  lent : l.lent ≡ record { entries = l.fn.memo; world = l.fn.world };
  hand : StaysRight (given_by (g.W.World.names l.fn.world) (g.W.World.sight l.fn.world) g.M.ItemMeaning.item l.fn.memo) l.initial.hand l.hand;
}
