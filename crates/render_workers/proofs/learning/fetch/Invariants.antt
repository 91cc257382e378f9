use Rattle.std.proofs.Common.{◌≡◌, ◌<◌, length}
use Rattle.round_core.specs.Meant.{given_by}
use Rattle.render_workers.specs.Worked.{StaysRight}
use Rattle.render_workers.proofs.learning.fetch.Given as goal

abbrev pub invariant-loop : goal.invariant-loop
invariant-loop g l = record {
  next : (goal.iterator-loop g).can_next l.iterator';
  finite : (goal.iterator-loop g).is_finite l.iterator';
  lent : l.lent ≡ record { entries = l.fn.memo; world = l.fn.world };
  within : l.wanted < length (g.W.World.names l.fn.world);
  hand : StaysRight (given_by (g.W.World.names l.fn.world) (g.W.World.sight l.fn.world) g.M.ItemMeaning.item l.fn.memo) l.initial.hand l.hand;
}
