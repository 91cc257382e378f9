-- How much of a site may be held.
use Rattle.std.specs.Prelude.{◌≡◌, ℕ, ◌≤◌, List, length, Option, Some, None}
use Rattle.std.specs.FinMap.{entries, get, len}
use Rattle.std.specs.List.{sum_by}
use Rattle.site_base.specs.Clash.{HasNoClash}
use Rattle.site_base.specs.Limits.{most_bytes}
use Rattle.site_base.specs.Places.{Files}

-- files of a site
abbrev pub most_files : ℕ
most_files = 50000

-- bytes of all files together
abbrev pub most_site_bytes : ℕ
most_site_bytes = 536870912

-- how many bytes these files have together
abbrev pub bytes_of : List (List ℕ × List ℕ) → ℕ
bytes_of files = sum_by (λ file. length file.1) files

abbrev pub site_bytes : Files → ℕ
site_bytes files = bytes_of (entries files)

abbrev pub length_or_zero : Option (List ℕ) → ℕ
length_or_zero None = 0
length_or_zero (Some bytes) = length bytes

-- the length of a file, or 0 where there is none with this path
abbrev pub length_at : Files → List ℕ → ℕ
length_at files path = length_or_zero (get files path)

-- files that may be held: they pass no limit, and no path is a folder of another
pub record CanBeHeld (files : Files) : Type 0 where
  pub few : len files ≤ most_files
  pub short : (path bytes : List ℕ) → get files path ≡ Some bytes → length bytes ≤ most_bytes
  pub within : site_bytes files ≤ most_site_bytes
  pub apart : HasNoClash files
