use Rattle.std.proofs.Common.{◌≡◌}
use Rattle.round_core.specs.Meant.{given_by}
use Rattle.render_workers.specs.Worked.{IsWork}
use Rattle.render_workers.proofs.worker.make.Given as goal

abbrev pub invariant-loop : goal.invariant-loop
invariant-loop g l = record {
  next : (goal.iterator-loop g).can_next l.iterator';
  finite : (goal.iterator-loop g).is_finite l.iterator';
  lent : l.worker.lent ≡ record { entries = l.fn.memo; world = l.fn.world };
  work : IsWork (given_by (g.W.World.names l.fn.world) (g.W.World.sight l.fn.world) g.R.Meaning.ItemMeaning.item l.fn.memo) l.fn.table l.worker;
  seat : l.worker.part.seat ≡ l.initial.worker.part.seat;
}
