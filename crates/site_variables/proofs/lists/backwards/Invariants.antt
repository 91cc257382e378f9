use Rattle.std.proofs.Common.{◌≡◌, take}
use Rattle.site_base.specs.Plain.{onto}
use Rattle.site_base.specs.View.{items_of}
use Rattle.site_variables.specs.Gathering.{backwards}
use Rattle.site_variables.proofs.lists.backwards.Given as goal

abbrev pub invariant-loop-place : goal.invariant-loop-place
invariant-loop-place l = onto l.list (backwards (items_of (take l.place l.values))) ≡ backwards (items_of l.values)
