use Rattle.std.proofs.Common.{◌<◌, ◌≤◌, sym, ◌∙◌, ap, arith, map, length}
use Rattle.std.specs.FinMap.{entries, len-entries}
use Rattle.site_base.specs.PathMap.{as_map}
use Rattle.out_tree.specs.Plan.{is_surplus}
use Rattle.out_tree.specs.declared.step.Step.TheVariants.{Remove}
use Rattle.out_tree.proofs.Picked.{picked_push, picked_skip, picked_all}
use Rattle.out_tree.proofs.planning.all_removals.Goals as goal
use Rattle.out_tree.proofs.planning.all_removals.Goals.{then-is_surplus+in_ok-copy+in_ok-copy-2+in_ok-push_step, else-is_surplus}

pub loop-place-preserved : goal.loop-place-preserved
loop-place-preserved c =
    let belief = as_map c.args.belief.now in
    let below : c.loop-place.place < length (entries belief) = omega (arith, len-entries belief, c.len-place-end.ensures, c.loop-place-test.true) in
    elim c.if-is_surplus.branch [
      | then-is_surplus+in_ok-copy+in_ok-copy-2+in_ok-push_step w ↦
          ap (λ s. map (λ p. p.step) s.items) w.steps-is
          ∙ picked_push (λ e. is_surplus c.args.tree.now c.args.keep.now e.0) (λ e. Remove e.0) (entries belief) c.loop-place.place (c.at.result.0.now, c.at.result.1.now)
          (map (λ p. p.step) c.loop-place.steps.items) _ _ below c.at.ensures (sym c.is_surplus.ensures ∙ w.if-is_surplus.true) (ap (λ path. Remove path) w.in_ok-copy.ensures) w.in_ok-push_step.ensures c.loop-place.invariant
      | else-is_surplus w ↦
          picked_skip (λ e. is_surplus c.args.tree.now c.args.keep.now e.0) (λ e. Remove e.0) (entries belief) c.loop-place.place (c.at.result.0.now, c.at.result.1.now)
          (map (λ p. p.step) c.loop-place.steps.items) _ below c.at.ensures (sym c.is_surplus.ensures ∙ w.if-is_surplus.false) (ap (λ s. map (λ p. p.step) s.items) w.steps-is) c.loop-place.invariant
    ]

pub returns : goal.returns
returns c =
    let belief = as_map c.args.belief.now in
    let all : length (entries belief) ≤ c.loop-place.place = omega (arith, len-entries belief, c.len-place-end.ensures, c.loop-place-test.false) in
    picked_all (λ e. is_surplus c.args.tree.now c.args.keep.now e.0) (λ e. Remove e.0) (entries belief) c.loop-place.place _ all c.loop-place.invariant
