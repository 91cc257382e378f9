-- A word at the front of a text, and a byte among others.
use Rattle.std.proofs.Common.{Bool, List, [], ap, arith, drop, false, get_or, length, nat_eq, refl, sym, true, ℕ, ◌+◌, ◌<◌, ◌&&◌, ◌==◌, ◌∙◌, ◌∷◌, ◌≡◌, ◌||◌}
use Rattle.std.specs.List.{list_any, starts_with}
use Rattle.std.proofs.lemmas.List.{drop_more}
use Rattle.site_text.specs.Bytes.{lower, lowered}
use Rattle.site_text.specs.Fronts.{begins_with, has_one}

pub begins_std : (word text : List ℕ) → starts_with nat_eq text word ≡ begins_with word text
begins_std [] text = refl
begins_std (w ∷ ws) [] = refl
begins_std (w ∷ ws) (c ∷ cs) = go (w == c) (begins_std ws cs) where
  go : (b : Bool) → starts_with nat_eq cs ws ≡ begins_with ws cs → (b && starts_with nat_eq cs ws) ≡ elim b as (λ x. Bool) [ true ↦ begins_with ws cs | false ↦ false ]
  go true h = h
  go false h = refl

abbrev front_cases : List ℕ → List ℕ → Bool → Bool
front_cases ws t b = elim b as (λ x. Bool) [ true ↦ begins_with ws t | false ↦ false ]

front : (word text : List ℕ) (i : ℕ) → i < length word → i < length text
    → begins_with (drop i word) (lowered (drop i text)) ≡ front_cases (drop (i + 1) word) (lowered (drop (i + 1) text)) (get_or word i 0 == lower (get_or text i 0))
front word text i a b =
    ap (λ (w : List ℕ). begins_with w (lowered (drop i text))) (drop_more word i 0 a)
    ∙ ap (λ (t : List ℕ). begins_with (get_or word i 0 ∷ drop (i + 1) word) (lowered t)) (drop_more text i 0 b)

pub same_front : (word text : List ℕ) (i : ℕ) (whole : Bool) → i < length word → i < length text → get_or word i 0 ≡ lower (get_or text i 0)
    → begins_with (drop i word) (lowered (drop i text)) ≡ whole → begins_with (drop (i + 1) word) (lowered (drop (i + 1) text)) ≡ whole
same_front word text i whole a b e w =
    let test : (get_or word i 0 == lower (get_or text i 0)) ≡ true = grind (arith, e) in
    sym (front word text i a b ∙ ap (front_cases (drop (i + 1) word) (lowered (drop (i + 1) text))) test) ∙ w

pub other_front : (word text : List ℕ) (i : ℕ) (whole : Bool) → i < length word → i < length text → (get_or word i 0 ≡ lower (get_or text i 0) → ⊥)
    → begins_with (drop i word) (lowered (drop i text)) ≡ whole → false ≡ whole
other_front word text i whole a b e w =
    let test : (get_or word i 0 == lower (get_or text i 0)) ≡ false = grind (arith, e) in
    sym (front word text i a b ∙ ap (front_cases (drop (i + 1) word) (lowered (drop (i + 1) text))) test) ∙ w

pub too_short : (word text : List ℕ) → length text < length word → false ≡ begins_with word (lowered text)
too_short [] text h = absurd (omega (arith, h))
too_short (w ∷ ws) [] h = refl
too_short (w ∷ ws) (c ∷ cs) h = go (w == lower c) (too_short ws cs (omega (arith, h))) where
  go : (b : Bool) → false ≡ begins_with ws (lowered cs) → false ≡ front_cases ws (lowered cs) b
  go true h = h
  go false h = refl

pub begins_one : (text : List ℕ) (c : ℕ) → 0 < length text → get_or text 0 0 ≡ c → begins_with (c ∷ []) text ≡ true
begins_one [] c lt e = absurd (omega (arith, lt))
begins_one (d ∷ ds) c lt e =
    let same : (c == d) ≡ true = grind arith in
    ap (λ (b : Bool). elim b as (λ x. Bool) [ true ↦ true | false ↦ false ]) same

pub any_is : (c : ℕ) (t : List ℕ) → list_any (λ d. d == c) t ≡ has_one (λ d. d == c) t
any_is c [] = refl
any_is c (d ∷ ds) = go (d == c) (any_is c ds) where
  go : (b : Bool) → list_any (λ d. d == c) ds ≡ has_one (λ d. d == c) ds → (b || list_any (λ d. d == c) ds) ≡ elim b as (λ x. Bool) [ true ↦ true | false ↦ has_one (λ d. d == c) ds ]
  go true h = refl
  go false h = h
