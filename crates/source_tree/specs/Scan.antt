-- Which fault a scan of files finds first.
use Rattle.std.specs.Prelude.{ℕ, ◌+◌, nat_lt, List, [], ◌∷◌, length, Option, Some, None, if◌then◌else◌, slice_index_or}
use Rattle.std.specs.Option.{option_or, option_map}
use Rattle.site_base.specs.Faults.{fault_at}
use Rattle.site_base.specs.declared.faults.SiteFault.{SiteFault}
use Rattle.site_base.specs.declared.faults.FaultKind.TheVariants.{TooManyFiles, FileTooLong, SiteTooLong}
use Rattle.site_base.specs.Limits.{most_bytes}
use Rattle.source_tree.specs.Limits.{most_files, most_site_bytes}

-- the path of the first file that is longer than a file may be
abbrev pub first_long : List (List ℕ × List ℕ) → Option (List ℕ)
first_long [] = None
first_long (file ∷ rest) = if nat_lt most_bytes (length file.1) then Some file.0 else first_long rest

-- the path of the first file at which the sum of bytes, this many before it, passes its limit
abbrev pub first_over : ℕ → List (List ℕ × List ℕ) → Option (List ℕ)
first_over sum [] = None
first_over sum (file ∷ rest) = if nat_lt most_site_bytes (sum + length file.1) then Some file.0 else first_over (sum + length file.1) rest

-- the first fault of a scan of these files, which stand in byte order
abbrev pub scan_fault : List (List ℕ × List ℕ) → Option SiteFault
scan_fault files =
    if nat_lt most_files (length files) then Some (fault_at TooManyFiles (slice_index_or files most_files ([], [])).0)
    else option_or (option_map (fault_at FileTooLong) (first_long files)) (option_map (fault_at SiteTooLong) (first_over 0 files))
