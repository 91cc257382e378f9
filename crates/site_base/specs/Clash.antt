-- Paths that cannot stand side by side: a file and one below it as below a folder.
use Rattle.std.specs.Prelude.{◌≡◌, ℕ, ◌==◌, nat_lt, ◌&&◌, Bool, true, false, List, [], ◌∷◌, Option}
use Rattle.std.specs.List.{list_any, find}
use Rattle.std.specs.FinMap.{FinMap, contains_key}
use Rattle.site_base.specs.Places.{path_cmp, is_listed}

-- the path lies below the folder: it begins with the folder and `/`
abbrev pub is_below : List ℕ → List ℕ → Bool
is_below [] folder = false
is_below (b ∷ path) [] = b == 47
is_below (b ∷ path) (c ∷ folder) = (c == b) && is_below path folder

-- one of the paths lies below the folder
abbrev pub has_below : List ℕ → List (List ℕ) → Bool
has_below folder paths = list_any (λ path. is_below path folder) paths

-- one of the paths is a folder of this one
abbrev pub has_folder : List ℕ → List (List ℕ) → Bool
has_folder path paths = list_any (λ folder. is_below path folder) paths

-- the first of the paths that is a folder of another
abbrev pub first_folder : List (List ℕ) → Option (List ℕ)
first_folder paths = find (λ folder. has_below folder paths) paths

-- no path is a folder of another
abbrev pub ClashFree : List (List ℕ) → Type 0
ClashFree paths = (path folder : List ℕ) → is_listed path paths ≡ true → is_listed folder paths ≡ true → is_below path folder ≡ false

abbrev pub HasNoClash : {V : Type 0} → FinMap path_cmp V → Type 0
HasNoClash files = (path folder : List ℕ) → contains_key files path ≡ true → contains_key files folder ≡ true → is_below path folder ≡ false

-- a text that stands before `/` and all that begin with it
abbrev pub begins_before_slash : List ℕ → Bool
begins_before_slash [] = true
begins_before_slash (b ∷ text) = nat_lt b 47
