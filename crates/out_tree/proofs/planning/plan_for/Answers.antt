use Rattle.std.proofs.Common.{◌≡◌, ◌+◌, ◌++◌, ◌∙◌, sym, subst, arith, length, length-append, map}
use Rattle.std.proofs.lemmas.List.{length-map}
use Rattle.site_base.specs.PathMap.{as_map}
use Rattle.out_tree.specs.Device.{EachOnce}
use Rattle.out_tree.proofs.Believed.{planned_once}
use Rattle.out_tree.proofs.planning.plan_for.Goals as goal

pub invariant_of-result : goal.invariant_of-result
invariant_of-result c =
    let removals = c.in_ok-removals.removals.items in
    let writes = c.in_ok-writes.writes.items in
    let count : length (map (λ p. p.step) removals ++ map (λ p. p.step) writes) ≡ length removals + length writes =
    length-append (map (λ p. p.step) removals) (map (λ p. p.step) writes) ∙ (λ i. length-map removals (λ p. p.step) i + length-map writes (λ p. p.step) i) in
    record {
      each_once = subst EachOnce (λ i. sym c.in_ok-removals.ensures i ++ sym c.in_ok-writes.ensures i) (planned_once (as_map c.args.belief.now) c.args.tree.now c.args.keep.now);
      spare_empty = c.in_ok-reserve.ensures.same ∙ c.new-spare.ensures;
      spare_fits = omega (arith, count, c.in_ok-reserve.ensures.room);
      failed_empty = c.in-Ok.ensures.items;
      failed_fits = omega (arith, count, c.in-Ok.ensures.capacity);
    }
