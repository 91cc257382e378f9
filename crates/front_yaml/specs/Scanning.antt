-- What one byte of a flow value does, as the search of its end takes it.
use Rattle.std.specs.Prelude.{◌≡◌, ℕ, ◌+◌, ◌<◌, ◌≤◌, Bool, true, false, List, ◌∷◌, length, drop}
use Rattle.front_yaml.specs.Extents.{has_end}
use Rattle.front_yaml.specs.declared.extents.Scan.{Scan}
use Rattle.front_yaml.specs.declared.extents.Step.{Step}
use Rattle.front_yaml.specs.declared.extents.Step.TheVariants.{Ends, Endless, On}

abbrev pub ends_from : Scan → List ℕ → Bool
ends_from s text = has_end s.before s.gap s.comment 0 s.depth text

abbrev pub Stepped : Step → Scan → ℕ → List ℕ → Type 0
Stepped Ends s c cs = ends_from s (c ∷ cs) ≡ true
Stepped Endless s c cs = ends_from s (c ∷ cs) ≡ false
Stepped (On t n) s c cs = ends_from s (c ∷ cs) ≡ ends_from t (drop n (c ∷ cs))

-- at least a byte and at most the text was taken, and at most a bracket opened
abbrev pub IsNear : Step → Scan → List ℕ → Type 0
IsNear (On t n) s cs = (0 < n) × (n ≤ 1 + length cs) × (t.depth ≤ s.depth + 1)
IsNear step s cs = Unit {0}
