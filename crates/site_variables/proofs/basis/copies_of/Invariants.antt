use Rattle.std.proofs.Common.{◌≡◌, map, take}
use Rattle.site_variables.specs.Resting.{copy_basis}
use Rattle.site_variables.proofs.basis.copies_of.Given as goal

abbrev pub invariant-loop-file : goal.invariant-loop-file
invariant-loop-file l = l.made.items ≡ map copy_basis (take l.file-index l.files)
