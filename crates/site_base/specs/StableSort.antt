-- Sorting that keeps the order of what ties.
use Rattle.std.specs.Prelude.{Bool, List, [], ◌∷◌, if◌then◌else◌}

module _ {X : Type 0} (below : X → X → Bool) where
  -- before the first that is not below it
  abbrev pub inserted : X → List X → List X
  inserted x [] = x ∷ []
  inserted x (y ∷ ys) = if below y x then y ∷ inserted x ys else x ∷ y ∷ ys

  abbrev pub stable_sort : List X → List X
  stable_sort [] = []
  stable_sort (x ∷ xs) = inserted x (stable_sort xs)
