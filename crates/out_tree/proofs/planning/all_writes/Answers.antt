use Rattle.std.proofs.Common.{◌<◌, ◌≤◌, sym, ◌∙◌, ap, arith, map, length, not}
use Rattle.std.specs.FinMap.{entries, len-entries}
use Rattle.site_base.specs.PathMap.{as_map}
use Rattle.out_tree.specs.Plan.{is_wanting}
use Rattle.out_tree.specs.declared.step.Step.TheVariants.{Write}
use Rattle.out_tree.proofs.Picked.{picked_push, picked_skip, picked_all}
use Rattle.out_tree.proofs.planning.all_writes.Goals as goal
use Rattle.out_tree.proofs.planning.all_writes.Goals.{then-not-is_known+in_ok-copy+in_ok-share+in_ok-copy-2+in_ok-push_step, else-not-is_known}

pub loop-place-preserved : goal.loop-place-preserved
loop-place-preserved c =
    let belief = as_map c.args.belief.now in
    let below : c.loop-place.place < length (entries c.args.tree.now) = omega (arith, len-entries c.args.tree.now, c.len-place-end.ensures, c.loop-place-test.true) in
    elim c.if-not-is_known.branch [
      | then-not-is_known+in_ok-copy+in_ok-share+in_ok-copy-2+in_ok-push_step w ↦
          ap (λ s. map (λ p. p.step) s.items) w.steps-is
          ∙ picked_push (is_wanting belief) (λ e. Write e.0 e.1) (entries c.args.tree.now) c.loop-place.place (c.shared_at.result.0.now, c.shared_at.result.1.now)
          (map (λ p. p.step) c.loop-place.steps.items) _ _ below c.shared_at.ensures (ap not (sym c.is_known.ensures) ∙ ap not w.if-not-is_known.true) (λ i. Write (w.in_ok-copy.ensures i) (w.in_ok-share.ensures i)) w.in_ok-push_step.ensures c.loop-place.invariant
      | else-not-is_known w ↦
          picked_skip (is_wanting belief) (λ e. Write e.0 e.1) (entries c.args.tree.now) c.loop-place.place (c.shared_at.result.0.now, c.shared_at.result.1.now)
          (map (λ p. p.step) c.loop-place.steps.items) _ below c.shared_at.ensures (ap not (sym c.is_known.ensures) ∙ ap not w.if-not-is_known.false) (ap (λ s. map (λ p. p.step) s.items) w.steps-is) c.loop-place.invariant
    ]

pub returns : goal.returns
returns c =
    let all : length (entries c.args.tree.now) ≤ c.loop-place.place = omega (arith, len-entries c.args.tree.now, c.len-place-end.ensures, c.loop-place-test.false) in
    picked_all (is_wanting (as_map c.args.belief.now)) (λ e. Write e.0 e.1) (entries c.args.tree.now) c.loop-place.place _ all c.loop-place.invariant
