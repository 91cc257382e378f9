use Rattle.std.proofs.Common.{◌≡◌, ◌↔◌, drop}
use Rattle.site_base.specs.View.{pairs_of}
use Rattle.site_variables.proofs.basis.are_same_pairs.Given as goal

abbrev pub invariant-loop-place : goal.invariant-loop-place
invariant-loop-place l = (pairs_of (drop l.place l.left) ≡ pairs_of (drop l.place l.right)) ↔ (pairs_of l.left ≡ pairs_of l.right)
