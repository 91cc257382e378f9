use Rattle.std.proofs.Common.{◌≡◌, map, take}
use Rattle.std.specs.Prelude.{filter}
use Rattle.std.specs.FinMap.{entries}
use Rattle.site_base.specs.PathMap.{as_map}
use Rattle.out_tree.specs.Plan.{is_wanting}
use Rattle.out_tree.specs.declared.step.Step.TheVariants.{Write}
use Rattle.out_tree.proofs.planning.all_writes.Given as goal

abbrev pub invariant-loop-place : goal.invariant-loop-place
invariant-loop-place l = map (λ p. p.step) l.steps.items ≡ map (λ e. Write e.0 e.1) (filter (is_wanting (as_map l.belief)) (take l.place (entries l.tree)))
