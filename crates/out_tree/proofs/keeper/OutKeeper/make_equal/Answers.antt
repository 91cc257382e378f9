use Rattle.std.proofs.Common.{◌∙◌, ap, subst}
use Rattle.out_tree.specs.Belief.{believed, after}
use Rattle.out_tree.specs.Plan.{steps_of}
use Rattle.out_tree.specs.Tries.{InOrder, DoneBut}
use Rattle.out_tree.proofs.Outcomes.{made_but, marks_those, settles}
use Rattle.out_tree.proofs.keeper.OutKeeper.make_equal.Goals as goal

pub returns-clause-made : goal.returns-clause-made
returns-clause-made g c =
    let told = g.O.OutTree.contents c.args.device.now in
    let tells = g.O.OutTree.contents c.apply.new.device in
    made_but c.apply.result.failed (believed c.args.self.now) c.args.tree.now c.args.keep.now told tells
    (subst (λ steps. DoneBut c.apply.result.failed steps told tells) (ap steps_of c.in_ok-plan.ensures) c.apply.ensures.contents)

pub returns-clause-marked : goal.returns-clause-marked
returns-clause-marked g c =
    let failed = c.apply.result.failed in
    marks_those (believed c.args.self.now) c.args.tree.now c.args.keep.now failed _
    (ap believed c.apply.ensures.belief ∙ ap (λ plan. after (believed c.args.self.now) (steps_of plan) failed) c.in_ok-plan.ensures)
    (subst (λ steps. InOrder steps failed) (ap steps_of c.in_ok-plan.ensures) c.apply.ensures.in_order)

pub returns-clause-settled : goal.returns-clause-settled
returns-clause-settled g c =
    settles (believed c.args.self.now) c.args.tree.now c.args.keep.now c.apply.result.failed _
    (ap believed c.apply.ensures.belief ∙ ap (λ plan. after (believed c.args.self.now) (steps_of plan) c.apply.result.failed) c.in_ok-plan.ensures)
