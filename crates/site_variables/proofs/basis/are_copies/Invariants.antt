use Rattle.std.proofs.Common.{◌≡◌, ◌↔◌, drop, map}
use Rattle.site_variables.specs.Resting.{copy_basis}
use Rattle.site_variables.proofs.basis.are_copies.Given as goal

abbrev pub invariant-loop-place : goal.invariant-loop-place
invariant-loop-place l = (drop l.place l.noted ≡ map copy_basis (drop l.place l.files)) ↔ (l.noted ≡ map copy_basis l.files)
