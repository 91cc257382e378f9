-- Why a file is not held besides others.
use Rattle.std.specs.Prelude.{ℕ, nat_lt, ◌||◌, List, [], ◌∷◌, length, Option, Some, None, if◌then◌else◌, map, Vec}
use Rattle.std.specs.FinMap as finmap
use Rattle.std.specs.Option.{option_or}
use Rattle.std.specs.declared.alloc.Global.{Global}
use Rattle.site_base.specs.Clash.{has_below, has_folder}
use Rattle.site_base.specs.Places.{Files}
use Rattle.site_base.specs.Limits.{most_bytes}
use Rattle.source_tree.specs.Limits.{most_files, most_site_bytes, site_bytes}
use Rattle.source_tree.specs.declared.put_error.PutError.{PutError}
use Rattle.source_tree.specs.declared.put_error.PutError.TheVariants.{FileTooLong, TooManyFiles, SiteTooLong, Clash}

-- the first limit that is passed by a file of this length and by so many files of so many bytes together
abbrev pub passed_limit : ℕ → ℕ → ℕ → Option PutError
passed_limit file_bytes files bytes =
    if nat_lt most_bytes file_bytes then Some FileTooLong
    else if nat_lt most_files files then Some TooManyFiles
    else if nat_lt most_site_bytes bytes then Some SiteTooLong
    else None

-- one of the files is a folder of this path, or the path is a folder of one of them
abbrev pub clash_refusal : Files → List ℕ → Option PutError
clash_refusal files path = if has_folder path (finmap.keys files) || has_below path (finmap.keys files) then Some Clash else None

-- why a file is refused: the first limit that is passed once it is put, or a clash of its path with those of the files
abbrev pub put_refusal : Files → List ℕ → List ℕ → Option PutError
put_refusal files path bytes =
    let after = finmap.insert files path bytes in
    option_or (passed_limit (length bytes) (finmap.len after) (site_bytes after)) (clash_refusal files path)

-- why the first file that is refused is, where these are put one after another
abbrev pub first_refusal : Files → List (List ℕ × List ℕ) → Option PutError
first_refusal files [] = None
first_refusal files (file ∷ rest) = option_or (put_refusal files file.0 file.1) (first_refusal (finmap.insert files file.0 file.1) rest)

-- a list of files, with their bytes as lists
abbrev pub plain : List (List ℕ × Vec ℕ Global) → List (List ℕ × List ℕ)
plain files = map (λ file. (file.0, file.1.items)) files
