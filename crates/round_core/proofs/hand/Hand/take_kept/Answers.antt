use Rattle.std.proofs.Common.{◌≡◌, ap, sym, subst, Some, refl, ◌∙◌}
use Rattle.std.specs.Prelude.{slice_get}
use Rattle.round_core.specs.Meant.{entry_of, given_by}
use Rattle.round_core.specs.Facts.{AreMeant}
use Rattle.round_core.specs.Hands.{hand_outs}
use Rattle.round_core.proofs.HandLaws.{stays-right}
use Rattle.round_core.proofs.hand.Hand.take_kept.Goals as goal

pub returns-in-Some-clause-taken : goal.returns-in-Some-clause-taken
returns-in-Some-clause-taken g c =
    let named : slice_get (g.W.World.names c.args.lent.now.world) c.args.item ≡ Some c.name.result.now = (λ i. slice_get (g.W.World.names (sym c.world-world.ensures i)) c.args.item) ∙ c.name.ensures in
    (c.in-Some.kept, ap (entry_of c.args.lent.now.entries) named ∙ c.in-Some.ensures.found.0, c.in-Some.ensures.found.1, c.know.ensures)

pub returns-in-None-clause-taken : goal.returns-in-None-clause-taken
returns-in-None-clause-taken g c =
    let named : slice_get (g.W.World.names c.args.lent.now.world) c.args.item ≡ Some c.name.result.now = (λ i. slice_get (g.W.World.names (sym c.world-world.ensures i)) c.args.item) ∙ c.name.ensures in
    (ap (entry_of c.args.lent.now.entries) named ∙ c.in-None.ensures.found, refl)

pub returns-in-Some-clause-right : goal.returns-in-Some-clause-right
returns-in-Some-clause-right g c entries right =
    let w = c.args.lent.now.world in
    let given = given_by (g.W.World.names w) (g.W.World.sight w) g.M.ItemMeaning.item entries in
    let named : slice_get (g.W.World.names w) c.args.item ≡ Some c.in-Some.kept.name = (λ i. slice_get (g.W.World.names (sym c.world-world.ensures i)) c.args.item) ∙ c.name.ensures ∙ ap Some (sym c.in-Some.ensures.named) in
    subst (λ h. AreMeant given (hand_outs h)) (sym c.know.ensures)
    (stays-right given (g.met.W.World.lawful w) c.args.self.now c.args.item c.in-Some.kept named c.name-name.ensures.certified right c.in-Some.checked c.in-Some.ensures.found.1)
