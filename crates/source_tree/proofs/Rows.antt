-- Worked rows of the definitions.
use Rattle.std.proofs.Common.{◌≡◌, None, Some, [], codes, refl, ◌∷◌}
use Rattle.source_tree.specs.Fitting.{count_fitting, first_limit}
use Rattle.source_tree.specs.Put.{passed_limit}
use Rattle.source_tree.specs.Scan.{first_over, scan_fault}
use Rattle.source_tree.specs.declared.put_error.PutError.TheVariants.{FileTooLong, SiteTooLong, TooManyFiles}

long_file : passed_limit 16777217 50001 536870913 ≡ Some FileTooLong
long_file = refl

many_files : passed_limit 16777216 50001 536870913 ≡ Some TooManyFiles
many_files = refl

long_site : passed_limit 16777216 50000 536870913 ≡ Some SiteTooLong
long_site = refl

at_each_limit : passed_limit 16777216 50000 536870912 ≡ None
at_each_limit = refl

-- the sum is passed at the second file
passed_later : first_over 536870910 ((codes "a", codes "xx") ∷ (codes "b", codes "x") ∷ []) ≡ Some (codes "b")
passed_later = refl

no_fault : scan_fault ((codes "a", codes "xx") ∷ (codes "b", []) ∷ []) ≡ None
no_fault = refl

-- one more file than may be held, after others
one_too_many : first_limit 49999 0 ((codes "a", codes "x") ∷ (codes "b", []) ∷ (codes "c", []) ∷ []) ≡ Some TooManyFiles
one_too_many = refl

one_fits : count_fitting 49999 0 ((codes "a", codes "x") ∷ (codes "b", []) ∷ (codes "c", []) ∷ []) ≡ 1
one_fits = refl
