use Rattle.std.proofs.Common.{sym, subst}
use Rattle.round_core.specs.Meant.{given_by}
use Rattle.round_core.specs.Facts.{AreMeant}
use Rattle.round_core.specs.Hands.{hand_outs}
use Rattle.round_core.proofs.HandLaws.{stays-right}
use Rattle.round_core.proofs.hand.Hand.take.Goals as goal

pub returns-clause-right : goal.returns-clause-right
returns-clause-right g c entries right =
    let w = c.args.world.now in
    let given = given_by (g.W.World.names w) (g.W.World.sight w) g.M.ItemMeaning.item entries in
    subst (λ h. AreMeant given (hand_outs h)) (sym c.know.ensures)
    (stays-right given (g.met.W.World.lawful w) c.args.self.now c.args.item c.args.kept c.requires.named c.name-name.ensures.certified right c.check-checked.result c.check-checked.ensures.first)
