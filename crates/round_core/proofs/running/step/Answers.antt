use Rattle.std.proofs.Common.{sym, subst}
use Rattle.round_core.specs.Meant.{given_by}
use Rattle.round_core.specs.Steps.{OnDone}
use Rattle.round_core.specs.Facts.{IsSound}
use Rattle.round_core.proofs.running.step.Goals as goal

pub returns-in-Keep-clause-sound : goal.returns-in-Keep-clause-sound
returns-in-Keep-clause-sound g c =
    let w = c.args.round.now.world.now in
    let given = given_by (g.W.World.names w) (g.W.World.sight w) g.R.Meaning.ItemMeaning.item c.args.round.now.memo.now in
    subst (λ e. OnDone c.keep.result (IsSound given e)) (sym c.in-Keep.is) c.keep.ensures.sound
