use Rattle.std.proofs.Common.{length, drop}
use Rattle.site_variables.proofs.PlaceLaws.{AreFilled}
use Rattle.site_variables.proofs.by_place.documents_by_place.Given as goal

abbrev pub invariant-loop-item : goal.invariant-loop-item
invariant-loop-item l = AreFilled l.item-items (drop l.item-index l.item-items) (length l.site.config.collections) l.lists.items
