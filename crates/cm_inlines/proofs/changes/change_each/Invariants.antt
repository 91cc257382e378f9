use Rattle.std.proofs.Common.{◌≡◌, drop}
use Rattle.cm_inlines.specs.Places.{change_each}
use Rattle.cm_inlines.proofs.changes.change_each.Given as goal

abbrev pub invariant-loop-place : goal.invariant-loop-place
invariant-loop-place l = change_each l.how (drop l.place-index l.places) l.nodes.items ≡ change_each l.how l.places l.fn.nodes.items
