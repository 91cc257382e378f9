-- What the calls of an output do to its contents.
use Rattle.std.specs.Prelude.{◌≡◌, ℕ, Bool, true, false, List, [], ◌∷◌, ◌++◌, Option, Some, map}
use Rattle.std.specs.FinMap.{get, insert, remove}
use Rattle.site_base.specs.Places.{Files, same_path, is_listed}
use Rattle.out_tree.specs.declared.step.Step.{Step}
use Rattle.out_tree.specs.declared.step.Step.TheVariants.{Remove, Write}
use Rattle.out_tree.specs.declared.step.Call.{Call}

abbrev pub path_of : Step → List ℕ
path_of (Remove path) = path
path_of (Write path bytes) = path

abbrev pub step_paths : List Step → List (List ℕ)
step_paths steps = map path_of steps

-- no path stands in two of the steps
abbrev pub EachOnce : List Step → Type 0
EachOnce [] = Unit {0}
EachOnce (step ∷ steps) = (is_listed (path_of step) (step_paths steps) ≡ false) × EachOnce steps

-- what a step makes of the files: its path has the bytes, or is not there
abbrev pub done_one : Files → Step → Files
done_one files (Remove path) = remove files path
done_one files (Write path bytes) = insert files path bytes

-- what the steps make of the files, one after another
abbrev pub done : Files → List Step → Files
done files [] = files
done files (step ∷ steps) = done (done_one files step) steps

-- all paths but this one stay
abbrev pub KeepsOthers : List ℕ → Files → Files → Type 0
KeepsOthers path old new = (q : List ℕ) → same_path q path ≡ false → get new q ≡ get old q

-- a step that succeeded is done; one that failed leaves its path with any content or none
abbrev pub Does : Files → Step → Bool → Files → Type 0
Does old step true new = new ≡ done_one old step
Does old step false new = KeepsOthers (path_of step) old new

-- where the output tells its contents, the step was done to them
abbrev pub Tells : Option Files → Option Files → Step → Bool → Type 0
Tells told tells step ok = (old : Files) → told ≡ Some old → (new : Files) × (tells ≡ Some new) × Does old step ok new

-- where the output tells its calls, they are those before and these
abbrev pub Calls : Option (List Call) → Option (List Call) → List Call → Type 0
Calls old new calls = (all : List Call) → new ≡ Some all → (before : List Call) × (old ≡ Some before) × (all ≡ before ++ calls)
