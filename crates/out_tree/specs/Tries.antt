-- What steps do that are tried one after another.
use Rattle.std.specs.Prelude.{◌≡◌, ◌≤◌, ◌+◌, ◌-◌, ◌^◌, min, ℕ, Bool, false, not, List, [], ◌∷◌, ◌++◌, map, filter, length, Option, Some}
use Rattle.std.specs.FinMap.{get}
use Rattle.site_base.specs.Places.{Files, is_listed}
use Rattle.out_tree.specs.Device.{path_of, step_paths, done, Does, Calls}
use Rattle.out_tree.specs.Belief.{Belief, after_one, IsTrueOf}
use Rattle.out_tree.specs.declared.step.Step.{Step}
use Rattle.out_tree.specs.declared.step.Call.{Call}
use Rattle.out_tree.specs.declared.step.Call.TheVariants.{Try}

-- the paths that failed are of the steps, in their order
abbrev pub InOrder : List Step → List (List ℕ) → Type 0
InOrder steps failed = failed ≡ filter (λ path. is_listed path failed) (step_paths steps)

-- where the output told its contents, it tells them still, and they are what the steps make of them at each path that did not fail
pub record DoneBut (failed : List (List ℕ)) (steps : List Step) (told tells : Option Files) : Type 0 where
  pub tells_still : (old : Files) → told ≡ Some old → (new : Files) × (tells ≡ Some new)
  pub is_done : (old new : Files) → told ≡ Some old → tells ≡ Some new → (path : List ℕ) → is_listed path failed ≡ false → get new path ≡ get (done old steps) path

-- a belief that was true of the contents told is true of those told now
pub record StaysTrue (belief new_belief : Belief) (told tells : Option Files) : Type 0 where
  pub stays : (old new : Files) → told ≡ Some old → tells ≡ Some new → IsTrueOf belief old → IsTrueOf new_belief new

-- the output was called for each of these steps in turn, and for nothing else
abbrev pub CallsFor : List Step → Option (List Call) → Option (List Call) → Type 0
CallsFor steps called calls = Calls called calls (map Try steps)

-- a u64 count rose by so much, or stands at its last value
abbrev pub RoseBy : ℕ → ℕ → ℕ → Type 0
RoseBy more before now = min (before + more) (2 ^ 64 - 1) ≤ now

-- the paths of the steps that failed
abbrev pub failed_paths : List (Step × Bool) → List (List ℕ)
failed_paths tries = map (λ t. path_of t.0) (filter (λ t. not t.1) tries)

-- the steps, with what came of each, one after another
abbrev pub AllDone : Files → List (Step × Bool) → Files → Type 0
AllDone old [] new = old ≡ new
AllDone old (t ∷ ts) new = (mid : Files) × Does old t.0 t.1 mid × AllDone mid ts new

-- what is believed after the steps, with what came of each
abbrev pub after_tries : Belief → List (Step × Bool) → Belief
after_tries belief [] = belief
after_tries belief (t ∷ ts) = after_tries (after_one belief t.0 t.1) ts

-- each step was tried once, in order, and nothing else was done
pub record Tried (steps : List Step) (old new : Belief) (told tells : Option Files) (called calls : Option (List Call)) (before now : ℕ) (failed failed_now : List (List ℕ)) : Type 0 where
  pub tries : List (Step × Bool)
  pub all : map (λ t. t.0) tries ≡ steps
  pub belief : new ≡ after_tries old tries
  pub output : (files : Files) → told ≡ Some files → (now_there : Files) × (tells ≡ Some now_there) × AllDone files tries now_there
  pub calls_are : CallsFor steps called calls
  pub failed_are : failed_now ≡ failed ++ failed_paths tries
  pub later : before ≤ now
  pub rose : RoseBy (length (failed_paths tries)) before now
  pub steady : failed_paths tries ≡ [] → now ≡ before
