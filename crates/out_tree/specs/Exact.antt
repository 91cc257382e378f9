-- When an output is exactly a tree, kept paths aside.
use Rattle.std.specs.Prelude.{◌≡◌, ℕ, true, false, List, [], Option, Some, None}
use Rattle.std.specs.FinMap.{get, contains_key}
use Rattle.site_base.specs.Places.{Files, is_listed}
use Rattle.out_tree.specs.Keep.{is_kept}
use Rattle.out_tree.specs.Belief.{Belief, IsTrueOf}
use Rattle.out_tree.specs.Plan.{planned}
use Rattle.out_tree.specs.declared.state.State.TheVariants.{Marked}

-- at each path that did not fail: a file of the tree has its bytes; another path is not there, or is as it was where it is kept
pub record IsExactlyBut (failed : List (List ℕ)) (tree : Files) (keep : List (List ℕ)) (old new : Files) : Type 0 where
  pub files : (path : List ℕ) → is_listed path failed ≡ false → contains_key tree path ≡ true → get new path ≡ get tree path
  pub others : (path : List ℕ) → is_listed path failed ≡ false → contains_key tree path ≡ false → is_kept keep path ≡ false → get new path ≡ None
  pub kept : (path : List ℕ) → is_listed path failed ≡ false → contains_key tree path ≡ false → is_kept keep path ≡ true → get new path ≡ get old path

-- each file of the tree has its bytes; each other path is not there, or is as it was where it is kept
abbrev pub IsExactly : Files → List (List ℕ) → Files → Files → Type 0
IsExactly tree keep old new = IsExactlyBut [] tree keep old new

-- where the belief was true of the output, the output is now exactly the tree but for the paths that failed
pub record MadeBut (failed : List (List ℕ)) (belief : Belief) (tree : Files) (keep : List (List ℕ)) (told tells : Option Files) : Type 0 where
  pub is_exactly : (old new : Files) → told ≡ Some old → tells ≡ Some new → IsTrueOf belief old → IsExactlyBut failed tree keep old new

-- a path that failed is marked; another path is marked only where it was, and an entry keeps it
pub record MarksThose (failed : List (List ℕ)) (keep : List (List ℕ)) (old new : Belief) : Type 0 where
  pub failed_marked : (path : List ℕ) → is_listed path failed ≡ true → get new path ≡ Some Marked
  pub marked_failed : (path : List ℕ) → is_listed path failed ≡ false → get new path ≡ Some Marked → (is_kept keep path ≡ true) × (get old path ≡ Some Marked)

-- where nothing failed, nothing is left to do
abbrev pub Settles : List (List ℕ) → Belief → Files → List (List ℕ) → Type 0
Settles failed belief tree keep = failed ≡ [] → planned belief tree keep ≡ []
