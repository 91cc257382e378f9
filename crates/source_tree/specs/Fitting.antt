-- How many files of a list pass no limit, where they are put one after another.
use Rattle.std.specs.Prelude.{ℕ, suc, ◌+◌, List, [], ◌∷◌, length, Option, None, if◌then◌else◌, is_some}
use Rattle.std.specs.Option.{option_or}
use Rattle.source_tree.specs.Put.{passed_limit}
use Rattle.source_tree.specs.declared.put_error.PutError.{PutError}

-- the first limit that is passed, with so many files and bytes before these
abbrev pub first_limit : ℕ → ℕ → List (List ℕ × List ℕ) → Option PutError
first_limit number total [] = None
first_limit number total (file ∷ rest) =
    option_or (passed_limit (length file.1) (number + 1) (total + length file.1)) (first_limit (number + 1) (total + length file.1) rest)

-- how many stand before the file at which it is passed
abbrev pub count_fitting : ℕ → ℕ → List (List ℕ × List ℕ) → ℕ
count_fitting number total [] = 0
count_fitting number total (file ∷ rest) =
    if is_some (passed_limit (length file.1) (number + 1) (total + length file.1)) then 0
    else suc (count_fitting (number + 1) (total + length file.1) rest)
