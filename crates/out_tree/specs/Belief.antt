-- What is believed of an output, when that is true, and what is believed after steps.
use Rattle.std.specs.Prelude.{◌≡◌, ℕ, Bool, true, false, not, List, [], ◌∷◌, Option, Some, None}
use Rattle.std.specs.FinMap.{FinMap, get, empty, insert, remove}
use Rattle.site_base.specs.Places.{Files, path_cmp, is_listed}
use Rattle.out_tree.specs.Device.{path_of}
use Rattle.out_tree.specs.Values.{map_values}
use Rattle.out_tree.specs.declared.step.Step.{Step}
use Rattle.out_tree.specs.declared.step.Step.TheVariants.{Remove, Write}
use Rattle.out_tree.specs.declared.state.State.{State}
use Rattle.out_tree.specs.declared.state.State.TheVariants.{Known, Marked}

-- a path that may be there is known with its bytes, or marked: it may have any bytes, or be absent
abbrev pub Belief : Type 0
Belief = FinMap path_cmp State

-- the bytes that are known, if they are
abbrev pub known_bytes : State → Option (List ℕ)
known_bytes (Known bytes) = Some bytes
known_bytes Marked = None

-- known with these bytes, or marked without any
abbrev pub state_of : Option (List ℕ) → State
state_of (Some bytes) = Known bytes
state_of None = Marked

-- the paths that are believed; none where the output has not been listed
abbrev pub believed : Option Belief → Belief
believed None = empty
believed (Some belief) = belief

-- what is known is there, and what is not believed is not there
pub record IsTrueOf (belief : Belief) (files : Files) : Type 0 where
  pub known : (path bytes : List ℕ) → get belief path ≡ Some (Known bytes) → get files path ≡ Some bytes
  pub absent : (path : List ℕ) → get belief path ≡ None → get files path ≡ None

-- an output that has not been listed may have any files
abbrev pub HoldsOf : Option Belief → Files → Type 0
HoldsOf None files = Unit {0}
HoldsOf (Some belief) files = IsTrueOf belief files

-- every file is marked
abbrev pub all_marked : Files → Belief
all_marked files = map_values (λ bytes. Marked) files

-- a step that succeeded makes its path known or not there, and one that failed marks it
abbrev pub after_one : Belief → Step → Bool → Belief
after_one belief (Remove path) true = remove belief path
after_one belief (Write path bytes) true = insert belief path (Known bytes)
after_one belief step false = insert belief (path_of step) Marked

-- what is believed after steps of which those of these paths failed
abbrev pub after : Belief → List Step → List (List ℕ) → Belief
after belief [] failed = belief
after belief (step ∷ steps) failed = after (after_one belief step (not (is_listed (path_of step) failed))) steps failed
