use Rattle.std.proofs.Common.{◌≡◌, drop}
use Rattle.site_base.specs.Plain.{onto}
use Rattle.site_variables.specs.Hashes.{collections_from}
use Rattle.site_variables.proofs.hashes.collections.Given as goal

abbrev pub invariant-loop-place : goal.invariant-loop-place
invariant-loop-place l = onto l.list (collections_from l.site.items l.place (drop l.place l.collections)) ≡ collections_from l.site.items 0 l.collections
