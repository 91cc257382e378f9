use Rattle.std.proofs.Common.{◌≡◌, ◌↔◌, drop}
use Rattle.site_base.specs.View.{items_of}
use Rattle.read_record.proofs.key.are_same.Given as goal

abbrev pub invariant-loop-place : goal.invariant-loop-place
invariant-loop-place l = (items_of (drop l.place l.left) ≡ items_of (drop l.place l.right)) ↔ (items_of l.left ≡ items_of l.right)
