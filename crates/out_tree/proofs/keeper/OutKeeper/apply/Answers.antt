use Rattle.std.proofs.Common.{◌∙◌, ◌++◌, sym, ap, Some}
use Rattle.std.specs.Option.{option_map}
use Rattle.site_base.specs.PathMap.{as_map}
use Rattle.out_tree.specs.Belief.{believed}
use Rattle.out_tree.specs.Plan.{steps_of}
use Rattle.out_tree.specs.Tries.{failed_paths}
use Rattle.out_tree.proofs.Trying.{tried_then}
use Rattle.out_tree.proofs.Outcomes.{outcome}
use Rattle.out_tree.proofs.keeper.OutKeeper.apply.Goals as goal

pub returns-clause-in_order : goal.returns-clause-in_order
returns-clause-in_order g c = (outcome (steps_of c.args.plan) _ (believed c.args.self.now) _ _ _ _ _ _ _ _ _ _ _ (tried_then _ _ _ _ _ _ _ _ _ _ _ _ _ _ _ _ _ c.try_all.ensures.tried c.try_all-in-Some.ensures.tried) (ap steps_of c.plan.view_is) (c.move_to.ensures.map ∙ ap (λ x. believed (option_map as_map x)) (sym c.in-Some.is) ∙ ap believed c.self.view_is) c.plan.invariant.failed_empty c.from_vec.ensures c.plan.invariant.each_once).in_order

pub returns-clause-belief : goal.returns-clause-belief
returns-clause-belief g c = ap Some (outcome (steps_of c.args.plan) _ (believed c.args.self.now) _ _ _ _ _ _ _ _ _ _ _ (tried_then _ _ _ _ _ _ _ _ _ _ _ _ _ _ _ _ _ c.try_all.ensures.tried c.try_all-in-Some.ensures.tried) (ap steps_of c.plan.view_is) (c.move_to.ensures.map ∙ ap (λ x. believed (option_map as_map x)) (sym c.in-Some.is) ∙ ap believed c.self.view_is) c.plan.invariant.failed_empty c.from_vec.ensures c.plan.invariant.each_once).belief

pub returns-clause-contents : goal.returns-clause-contents
returns-clause-contents g c = (outcome (steps_of c.args.plan) _ (believed c.args.self.now) _ _ _ _ _ _ _ _ _ _ _ (tried_then _ _ _ _ _ _ _ _ _ _ _ _ _ _ _ _ _ c.try_all.ensures.tried c.try_all-in-Some.ensures.tried) (ap steps_of c.plan.view_is) (c.move_to.ensures.map ∙ ap (λ x. believed (option_map as_map x)) (sym c.in-Some.is) ∙ ap believed c.self.view_is) c.plan.invariant.failed_empty c.from_vec.ensures c.plan.invariant.each_once).contents

pub returns-clause-truth : goal.returns-clause-truth
returns-clause-truth g c = (outcome (steps_of c.args.plan) _ (believed c.args.self.now) _ _ _ _ _ _ _ _ _ _ _ (tried_then _ _ _ _ _ _ _ _ _ _ _ _ _ _ _ _ _ c.try_all.ensures.tried c.try_all-in-Some.ensures.tried) (ap steps_of c.plan.view_is) (c.move_to.ensures.map ∙ ap (λ x. believed (option_map as_map x)) (sym c.in-Some.is) ∙ ap believed c.self.view_is) c.plan.invariant.failed_empty c.from_vec.ensures c.plan.invariant.each_once).truth

pub returns-clause-steady : goal.returns-clause-steady
returns-clause-steady g c = λ none.
    let all = tried_then _ _ _ _ _ _ _ _ _ _ _ _ _ _ _ _ _ c.try_all.ensures.tried c.try_all-in-Some.ensures.tried in
    all.steady (sym (all.failed_are ∙ ap (λ l. l ++ failed_paths all.tries) c.plan.invariant.failed_empty) ∙ sym c.from_vec.ensures ∙ none)
