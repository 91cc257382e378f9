-- The folder of a file, and paths below a base.
use Rattle.std.proofs.Common.{◌≡◌, ◌∙◌, ℕ, zero, suc, ◌+◌, ◌-◌, ◌<◌, ◌==◌, ◌&&◌, ◌||◌, Bool, IsUtf8, List, None, Some, [], ◌∷◌, ◌++◌, ap, arith, cond, drop, false, get_or, length, refl, reverse, subst, sym, true}
use Rattle.std.specs.List.{prefix_len, suffix_len}
use Rattle.std.specs.Str.{IsCharBoundary, bytes_eq}
use Rattle.std.proofs.Math.Dec.{eqb-suc-zero}
use Rattle.std.proofs.lemmas.List.{get_or-reverse, length-reverse}
use Rattle.std.proofs.lemmas.List.Sums.{prefix_len_stops}
use Rattle.std.proofs.lemmas.Str.{IsCharBoundary-after_ascii, IsCharBoundary-start}
use Rattle.site_text.specs.Fronts.{begins_with}
use Rattle.link_check.specs.Segments.{after_base}
use Rattle.link_check.specs.Targets.{below, is_of_name}

-- after the last `/`, or at the start
pub folder_cut : (t : List ℕ) (n k : ℕ) → IsUtf8 t → n ≡ suffix_len is_of_name t → k ≡ length t - n → IsCharBoundary t k
folder_cut t n zero u e is = IsCharBoundary-start t u
folder_cut t n (suc k) u e is =
    let less : prefix_len is_of_name (reverse t) < length (reverse t) = omega (arith, e, is, length-reverse t) in
    let other : is_of_name (get_or (reverse t) n 0) ≡ false = ap (λ (i : ℕ). is_of_name (get_or (reverse t) i 0)) e ∙ prefix_len_stops is_of_name (reverse t) 0 less in
    let place : length t - 1 - n ≡ k = omega (arith, is) in
    let back : get_or (reverse t) n 0 ≡ get_or t k 0 = get_or-reverse t n 0 (omega (arith, is)) ∙ ap (λ (i : ℕ). get_or t i 0) place in
    let sign : is_of_name (get_or t k 0) ≡ false = ap is_of_name (sym back) ∙ other in
    let small : get_or t k 0 < 128 = grind (arith, sign) in
    let one : k + 1 ≡ suc k = omega arith in
    subst (IsCharBoundary t) one (IsCharBoundary-after_ascii t k u (omega (arith, is)) small)

-- ---- below a base

turned : (b c : ℕ) → (c == b) ≡ (b == c)
turned b c = go (c == b) refl where
  go : (x : Bool) → (c == b) ≡ x → (c == b) ≡ (b == c)
  go true e = let same : (b == c) ≡ true = grind (arith, e) in e ∙ sym same
  go false e = let other : (b == c) ≡ false = grind (arith, e) in e ∙ sym other

is_same : (base t : List ℕ) → bytes_eq t base ≡ (begins_with base t && (length (drop (length base) t) == 0))
is_same [] [] = refl
is_same [] (c ∷ cs) = sym (eqb-suc-zero (length cs))
is_same (b ∷ bs) [] = refl
is_same (b ∷ bs) (c ∷ cs) = ap (λ (x : Bool). x && bytes_eq cs bs) (turned b c) ∙ go (b == c) (is_same bs cs) where
  go : (x : Bool) → bytes_eq cs bs ≡ (begins_with bs cs && (length (drop (length bs) cs) == 0)) → (x && bytes_eq cs bs) ≡ (elim x as (λ z. Bool) [ true ↦ begins_with bs cs | false ↦ false ] && (length (drop (length bs) cs) == 0))
  go true h = h
  go false h = refl

is_inside : (base t : List ℕ) → begins_with (base ++ 47 ∷ []) t ≡ (begins_with base t && begins_with (47 ∷ []) (drop (length base) t))
is_inside [] t = refl
is_inside (b ∷ bs) [] = refl
is_inside (b ∷ bs) (c ∷ cs) = go (b == c) (is_inside bs cs) where
  go : (x : Bool) → begins_with (bs ++ 47 ∷ []) cs ≡ (begins_with bs cs && begins_with (47 ∷ []) (drop (length bs) cs))
      → elim x as (λ z. Bool) [ true ↦ begins_with (bs ++ 47 ∷ []) cs | false ↦ false ] ≡ (elim x as (λ z. Bool) [ true ↦ begins_with bs cs | false ↦ false ] && begins_with (47 ∷ []) (drop (length bs) cs))
  go true h = h
  go false h = refl

below_is : (base t : List ℕ) → below base t ≡ cond (begins_with base t) (after_base (drop (length base) t)) None
below_is base t =
    let rest = drop (length base) t in
    ap (λ (b : Bool). cond (b || begins_with (base ++ 47 ∷ []) t) (Some rest) None) (is_same base t)
    ∙ ap (λ (b : Bool). cond ((begins_with base t && (length rest == 0)) || b) (Some rest) None) (is_inside base t)
    ∙ go (begins_with base t) where
      go : (b : Bool) → cond ((b && (length (drop (length base) t) == 0)) || (b && begins_with (47 ∷ []) (drop (length base) t))) (Some (drop (length base) t)) None ≡ cond b (after_base (drop (length base) t)) None
      go true = refl
      go false = refl

pub not_below : (base t : List ℕ) → begins_with base t ≡ false → None ≡ below base t
not_below base t e = sym (below_is base t ∙ ap (λ (b : Bool). cond b (after_base (drop (length base) t)) None) e)

pub at_front : (base t rest : List ℕ) → begins_with base t ≡ true → rest ≡ drop (length base) t → after_base rest ≡ below base t
at_front base t rest e r = ap after_base r ∙ sym (below_is base t ∙ ap (λ (b : Bool). cond b (after_base (drop (length base) t)) None) e)
