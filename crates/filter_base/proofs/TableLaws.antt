-- A table of names in code against that of a definition.
use Rattle.std.proofs.Common.{◌≡◌, ℕ, List, [], ◌∷◌, refl, ap, ◌∙◌, Some, None, arith}
use Rattle.std.specs.Prelude.{map, Option}
use Rattle.std.specs.Borrow.{Bor}
use Rattle.std.specs.List.{find}
use Rattle.std.specs.Map.{lookup}
use Rattle.std.specs.Option.{option_map}
use Rattle.std.specs.Str.{bytes_eq}
use Rattle.filter_base.specs.Answers.{Meaning}

-- a name with what the code has for it, of a type N
abbrev pub Row : Type 0 → Type 0
Row N = Bor (List ℕ) × N

module _ {N : Type 0} (meaning_of : N → Meaning) where
  abbrev pub entry : Row N → List ℕ × Meaning
  entry r = (r.0.now, meaning_of r.1)

  first_meaning : (name : List ℕ) (rs : List (Row N)) → option_map (λ (r : Row N). meaning_of r.1) (find (λ (r : Row N). bytes_eq name r.0.now) rs) ≡ lookup (bytes_eq name) (map entry rs)
  first_meaning name [] = refl
  first_meaning name (r ∷ rs) = grind (arith, first_meaning name rs)

  pub found_meaning : (name : List ℕ) (rs : List (Row N)) (o : Option (Bor (Row N))) → option_map (λ (b : Bor (Row N)). b.now) o ≡ find (λ (r : Row N). bytes_eq name r.0.now) rs
      → option_map (λ (b : Bor (Row N)). meaning_of b.now.1) o ≡ lookup (bytes_eq name) (map entry rs)
  found_meaning name rs None e = ap (option_map (λ (r : Row N). meaning_of r.1)) e ∙ first_meaning name rs
  found_meaning name rs (Some b) e = ap (option_map (λ (r : Row N). meaning_of r.1)) e ∙ first_meaning name rs
