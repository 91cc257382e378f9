use Rattle.std.specs.FinMap.{empty}
use Rattle.memo_table.specs.Entries.{Entries}
use Rattle.round_core.specs.Meant.{given_by}
use Rattle.render_workers.proofs.RoundLaws.{SoFar}
use Rattle.render_workers.proofs.anew.render_all.Given as goal

-- of some entries, those that a round would have kept
abbrev pub invariant-loop-item : goal.invariant-loop-item
invariant-loop-item g l =
    let given = given_by (g.W.World.names l.fn.world) (g.W.World.sight l.fn.world) g.R.Meaning.ItemMeaning.item empty in
    (kept : Entries) × SoFar given (g.W.World.fixed l.fn.world) l.item l.progress kept l.initial.tally l.tally
