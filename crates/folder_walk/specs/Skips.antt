-- What a walk over a folder passes over, by the names of its folders and files.
use Rattle.std.specs.Prelude.{ℕ, Bool, ◌&&◌, ◌||◌, List, map}
use Rattle.std.specs.Borrow.{Bor}
use Rattle.std.specs.Char.{to_ascii_lowercase}
use Rattle.std.specs.List.{list_any}
use Rattle.std.specs.Str.{bytes_eq}

-- one of the names is this one
abbrev pub holds : List (Bor (List ℕ)) → List ℕ → Bool
holds names name = list_any (λ other. bytes_eq other.now name) names

abbrev pub lower : List ℕ → List ℕ
lower name = map to_ascii_lowercase name

-- one of the names is this one, in capital letters or not
abbrev pub holds_in_any_case : List (Bor (List ℕ)) → List ℕ → Bool
holds_in_any_case names name = list_any (λ other. bytes_eq (lower name) (lower other.now)) names

-- a folder of this name is not entered: some are not at any depth, others not directly in the folder that is listed
abbrev pub is_skipped_folder : List (Bor (List ℕ)) → List (Bor (List ℕ)) → Bool → List ℕ → Bool
is_skipped_folder anywhere at_top is_top name = holds anywhere name || (is_top && holds at_top name)

-- whatever has this name directly in the folder that is listed
abbrev pub is_skipped_name : List (Bor (List ℕ)) → Bool → List ℕ → Bool
is_skipped_name names is_top name = is_top && holds_in_any_case names name
