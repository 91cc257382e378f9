-- Names and single bytes.
use Rattle.std.proofs.Common.{◌≡◌, ◌∙◌, Bool, List, [], ap, arith, drop, false, get_or, length, refl, suc, sym, true, zero, ℕ, ◌+◌, ◌<◌, ◌==◌, ◌∷◌, ◌≤◌}
use Rattle.std.proofs.lemmas.List.{drop_more}
use Rattle.site_text.specs.Bytes.{lower, lowered}
use Rattle.site_text.specs.Fronts.{first_byte}
use Rattle.markdown_grammar.specs.Fronts.{same_bytes}

drop_past : (t : List ℕ) (n : ℕ) → length t ≤ n → drop n t ≡ []
drop_past [] zero h = refl
drop_past [] (suc n) h = refl
drop_past (c ∷ cs) zero h = absurd (omega (arith, h))
drop_past (c ∷ cs) (suc n) h = drop_past cs n (omega (arith, h))

abbrev case_of : Bool → Bool → Bool
case_of b w = elim b as (λ x. Bool) [ true ↦ w | false ↦ false ]

opened : (a b : List ℕ) (i : ℕ) → i < length a → i < length b
    → same_bytes (drop i a) (lowered (drop i b)) ≡ case_of (get_or a i 0 == lower (get_or b i 0)) (same_bytes (drop (i + 1) a) (lowered (drop (i + 1) b)))
opened a b i p q = ap (λ (x : List ℕ). same_bytes x (lowered (drop i b))) (drop_more a i 0 p) ∙ ap (λ (y : List ℕ). same_bytes (get_or a i 0 ∷ drop (i + 1) a) (lowered y)) (drop_more b i 0 q)

pub name_more : (a b : List ℕ) (i : ℕ) (w : Bool) → i < length a → i < length b → get_or a i 0 ≡ lower (get_or b i 0)
    → same_bytes (drop i a) (lowered (drop i b)) ≡ w → same_bytes (drop (i + 1) a) (lowered (drop (i + 1) b)) ≡ w
name_more a b i w p q e h =
    let same : (get_or a i 0 == lower (get_or b i 0)) ≡ true = grind (arith, e) in
    sym (opened a b i p q ∙ ap (λ (x : Bool). case_of x (same_bytes (drop (i + 1) a) (lowered (drop (i + 1) b)))) same) ∙ h

pub name_differs : (a b : List ℕ) (i : ℕ) (w : Bool) → i < length a → i < length b → (get_or a i 0 ≡ lower (get_or b i 0) → ⊥)
    → same_bytes (drop i a) (lowered (drop i b)) ≡ w → false ≡ w
name_differs a b i w p q e h =
    let other : (get_or a i 0 == lower (get_or b i 0)) ≡ false = grind (arith, e) in
    sym (opened a b i p q ∙ ap (λ (x : Bool). case_of x (same_bytes (drop (i + 1) a) (lowered (drop (i + 1) b)))) other) ∙ h

pub name_ends : (a b : List ℕ) (i : ℕ) (w : Bool) → length a ≡ length b → length b ≤ i → same_bytes (drop i a) (lowered (drop i b)) ≡ w → true ≡ w
name_ends a b i w e le h =
    sym (ap (λ (x : List ℕ). same_bytes x (lowered (drop i b))) (drop_past a i (omega (arith, e, le))) ∙ ap (λ (y : List ℕ). same_bytes [] (lowered y)) (drop_past b i le)) ∙ h

pub lengths_differ : (a b : List ℕ) → (length a ≡ length b → ⊥) → false ≡ same_bytes a (lowered b)
lengths_differ [] [] h = absurd (h refl)
lengths_differ [] (d ∷ ds) h = refl
lengths_differ (c ∷ cs) [] h = refl
lengths_differ (c ∷ cs) (d ∷ ds) h = go (c == lower d) (lengths_differ cs ds (λ e. h (omega (arith, e)))) where
  go : (b : Bool) → false ≡ same_bytes cs (lowered ds) → false ≡ case_of b (same_bytes cs (lowered ds))
  go true e = e
  go false e = refl

pub first_at : (k : ℕ) (t : List ℕ) → first_byte (drop k t) ≡ get_or t k 0
first_at zero [] = refl
first_at zero (c ∷ cs) = refl
first_at (suc k) [] = refl
first_at (suc k) (c ∷ cs) = first_at k cs
