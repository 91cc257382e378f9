use Rattle.std.proofs.Common.{◌≡◌, drop}
use Rattle.site_base.specs.View.{items_of}
use Rattle.list_filters.specs.KeyOrder.{are_alike}
use Rattle.list_filters.proofs.key_order.are_alike.Given as goal

abbrev pub invariant-loop-place : goal.invariant-loop-place
invariant-loop-place l = are_alike (items_of (drop l.place l.keys)) ≡ are_alike (items_of l.keys)
