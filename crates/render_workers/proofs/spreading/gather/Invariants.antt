use Rattle.std.proofs.Common.{All, IfOk, length}
use Rattle.claim_table.specs.Counts.{EachOnce}
use Rattle.round_core.specs.Meant.{given_by}
use Rattle.render_workers.specs.Brought.{IsPart}
use Rattle.render_workers.proofs.spreading.gather.Given as goal

abbrev pub invariant-loop-part : goal.invariant-loop-part
invariant-loop-part g l = record {
  all : IsPart (given_by (g.W.World.names l.fn.world) (g.W.World.sight l.fn.world) g.M.ItemMeaning.item l.fn.memo) l.fn.table l.all.seat l.all.tally l.all.brought.items;
  once : EachOnce l.all.seat.mine l.all.seat.done;
  parts : All (λ part. IfOk part (λ p. IsPart (given_by (g.W.World.names l.fn.world) (g.W.World.sight l.fn.world) g.M.ItemMeaning.item l.fn.memo) l.fn.table p.seat p.tally p.brought.items)) l.parts.items;
}

abbrev pub decreases-loop-part : goal.decreases-loop-part
decreases-loop-part g l = length l.parts.items
