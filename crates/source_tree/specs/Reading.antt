-- How far a scan has come.
use Rattle.std.specs.Prelude.{◌≡◌, ℕ, ◌+◌, ◌<◌, ◌≤◌, List, ◌∷◌, [], ◌++◌, length, Some, None}
use Rattle.std.specs.FinMap.{entries}
use Rattle.site_base.specs.Places.{Files, paths_of}
use Rattle.source_tree.specs.Limits.{most_site_bytes}
use Rattle.source_tree.specs.Scan.{first_long, first_over}
use Rattle.source_tree.specs.declared.reading.Reading.{Reading}

-- one more file was read
pub record Adds (old new : Reading) (path bytes : List ℕ) : Type 0 where
  pub was_over : (at : List ℕ) → old.over ≡ Some at → new.over ≡ Some at
  pub passes : old.over ≡ None → most_site_bytes < old.total + length bytes → new.over ≡ Some path
  pub fits : old.over ≡ None → old.total + length bytes ≤ most_site_bytes → (new.over ≡ None) × (new.total ≡ old.total + length bytes) × (new.files.items ≡ old.files.items ++ (path, bytes) ∷ [])

-- unless the sum passed its limit, the files with these paths were read, but for those that are left
abbrev pub Follows : List (List ℕ) → List (List ℕ) → Reading → Type 0
Follows paths left reading = reading.over ≡ None → paths ≡ paths_of reading.files.items ++ left

-- of these files, those with these paths are left to be read
pub record Going (files : Files) (left : List (List ℕ)) (reading : Reading) : Type 0 where
  pub front : List (List ℕ × List ℕ)
  pub rest : List (List ℕ × List ℕ)
  pub whole : entries files ≡ front ++ rest
  pub left_is : left ≡ paths_of rest
  pub long : first_long (entries files) ≡ first_long rest
  pub over : (at : List ℕ) → reading.over ≡ Some at → first_over 0 (entries files) ≡ Some at
  pub within : reading.over ≡ None → (reading.files.items ≡ front) × (first_over 0 (entries files) ≡ first_over reading.total rest)
