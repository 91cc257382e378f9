-- The memory of a plan.
use Rattle.std.specs.Prelude.{◌≡◌, ◌≤◌, ◌+◌, ◌++◌, List, [], length, map, vec_capacity}
use Rattle.std.specs.FinMap.{empty}
use Rattle.site_base.specs.PathMap.{as_map, room}
use Rattle.out_tree.specs.Device.{EachOnce}
use Rattle.out_tree.specs.declared.step.Step.{Step}
use Rattle.out_tree.specs.declared.plan.Plan.TheInside.{Inside}

abbrev pub inner_steps : Inside → List Step
inner_steps plan = map (λ p. p.step) plan.removals.items ++ map (λ p. p.step) plan.writes.items

-- there is room for what is believed and one path more a step, and no path stands in two steps
pub record HasRoom (plan : Inside) : Type 0 where
  pub each_once : EachOnce (inner_steps plan)
  pub spare_empty : as_map plan.spare ≡ empty
  pub spare_fits : plan.believed + length (inner_steps plan) ≤ room plan.spare
  pub failed_empty : plan.failed.items ≡ []
  pub failed_fits : length (inner_steps plan) ≤ vec_capacity plan.failed
