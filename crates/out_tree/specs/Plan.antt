-- The steps that make an output equal to a tree.
use Rattle.std.specs.Prelude.{ℕ, Bool, false, not, ◌&&◌, List, ◌++◌, map, filter, Option, Some, None}
use Rattle.std.specs.FinMap.{entries, get, contains_key, len}
use Rattle.std.specs.Str.{bytes_eq}
use Rattle.site_base.specs.Places.{Files}
use Rattle.out_tree.specs.Keep.{is_kept}
use Rattle.out_tree.specs.Belief.{Belief}
use Rattle.out_tree.specs.declared.step.Step.{Step}
use Rattle.out_tree.specs.declared.step.Step.TheVariants.{Remove, Write}
use Rattle.out_tree.specs.declared.state.State.{State}
use Rattle.out_tree.specs.declared.state.State.TheVariants.{Known, Marked}

-- the steps, and of how many paths the belief was that they were planned for
pub record Sketch : Type 0 where
  pub believed : ℕ
  pub removals : List Step
  pub writes : List Step

-- all removals, then all writes
abbrev pub steps_of : Sketch → List Step
steps_of sketch = sketch.removals ++ sketch.writes

-- whether a path is known to have these bytes
abbrev pub is_known_as : Option State → List ℕ → Bool
is_known_as None bytes = false
is_known_as (Some Marked) bytes = false
is_known_as (Some (Known known)) bytes = bytes_eq known bytes

-- the tree lacks the path, and no entry keeps it
abbrev pub is_surplus : Files → List (List ℕ) → List ℕ → Bool
is_surplus tree keep path = not (contains_key tree path) && not (is_kept keep path)

-- the removals: in byte order the believed paths that the tree lacks and no entry keeps
abbrev pub removals : Belief → Files → List (List ℕ) → List Step
removals belief tree keep = map (λ e. Remove e.0) (filter (λ e. is_surplus tree keep e.0) (entries belief))

-- a file of the tree that is not known to be there with its bytes
abbrev pub is_wanting : Belief → List ℕ × List ℕ → Bool
is_wanting belief e = not (is_known_as (get belief e.0) e.1)

-- the writes: in byte order the files of the tree that are not known to be there with their bytes
abbrev pub writes : Belief → Files → List Step
writes belief tree = map (λ e. Write e.0 e.1) (filter (is_wanting belief) (entries tree))

abbrev pub planned : Belief → Files → List (List ℕ) → List Step
planned belief tree keep = removals belief tree keep ++ writes belief tree

abbrev pub plan_of : Belief → Files → List (List ℕ) → Sketch
plan_of belief tree keep = record { believed = len belief; removals = removals belief tree keep; writes = writes belief tree }
