use Rattle.std.proofs.Common.{◌≡◌, ◌++◌, drop}
use Rattle.site_base.specs.Plain.{list}
use Rattle.site_base.specs.View.{items_of}
use Rattle.site_config.specs.Config.{scopes_of}
use Rattle.site_config.proofs.scopes.scopes_in.Given as goal

abbrev pub invariant-loop-value : goal.invariant-loop-value
invariant-loop-value l = l.scopes ++ scopes_of (list (items_of (drop l.value-index l.value-items))) ≡ scopes_of (list (items_of l.value-items))
