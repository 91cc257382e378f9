-- Lists of entries in the order of their keys, as the sorted `Vec` of a map of paths.
use Rattle.std.specs.Prelude.{ℕ, suc, cond, Bool, true, List, [], ◌∷◌, length, ◌<◌, ◌≤◌, ◌≡◌, slice_index_or, map, None}
use Rattle.std.specs.Ordering.{is_gt, nat_cmp, eq_by_cmp}
use Rattle.std.specs.List.{list_any, IsDistinct}
use Rattle.std.specs.Cmp.Lexicographic.{slice_cmp}
use Rattle.std.specs.FinMap.{FinMap, is_sorted, find, get}

-- paths in byte order
abbrev pub path_cmp : List ℕ → List ℕ → Rattle.std.specs.declared.cmp.Ordering.Ordering
path_cmp = slice_cmp nat_cmp

abbrev pub paths_of : {V : Type 0} → List (List ℕ × V) → List (List ℕ)
paths_of es = map (λ e. e.0) es

-- how many entries at the front have lower paths
abbrev pub count_below : {V : Type 0} → List ℕ → List (List ℕ × V) → ℕ
count_below k [] = 0
count_below k (e ∷ es) = cond (is_gt (path_cmp k e.0)) (suc (count_below k es)) 0

-- the paths strictly rise
abbrev pub PathsRise : {V : Type 0} → List (List ℕ × V) → Type 0
PathsRise es = is_sorted path_cmp es ≡ true

-- the entry at this place has the path
pub record IsThere {V : Type 0} (path : List ℕ) (entries : List (List ℕ × V)) (place : ℕ) : Type 0 where
  pub place_is : place ≡ count_below path entries
  pub bound : place < length entries
  pub path_is : (d : List ℕ × V) → (slice_index_or entries place d).0 ≡ path

-- no entry has the path, and it would stand at this place
pub record IsAbsent {V : Type 0} (path : List ℕ) (entries : List (List ℕ × V)) (place : ℕ) : Type 0 where
  pub place_is : place ≡ count_below path entries
  pub bound : place ≤ length entries
  pub none : find path_cmp path entries ≡ None

-- a site's files: from paths to bytes
abbrev pub Files : Type 0
Files = FinMap path_cmp (List ℕ)

abbrev pub same_path : List ℕ → List ℕ → Bool
same_path = eq_by_cmp path_cmp

abbrev pub is_listed : List ℕ → List (List ℕ) → Bool
is_listed path paths = list_any (same_path path) paths

-- no path stands twice
abbrev pub AllDiffer : List (List ℕ) → Type 0
AllDiffer paths = IsDistinct same_path paths
