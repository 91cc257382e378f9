use Rattle.std.proofs.Common.{◌≡◌, map, take}
use Rattle.std.specs.Prelude.{filter}
use Rattle.std.specs.FinMap.{entries}
use Rattle.site_base.specs.PathMap.{as_map}
use Rattle.out_tree.specs.Plan.{is_surplus}
use Rattle.out_tree.specs.declared.step.Step.TheVariants.{Remove}
use Rattle.out_tree.proofs.planning.all_removals.Given as goal

abbrev pub invariant-loop-place : goal.invariant-loop-place
invariant-loop-place l = map (λ p. p.step) l.steps.items ≡ map (λ e. Remove e.0) (filter (λ e. is_surplus l.tree l.keep e.0) (take l.place (entries (as_map l.belief))))
