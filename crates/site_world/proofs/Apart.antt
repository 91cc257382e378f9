-- Names that differ stand at one place each.
use Rattle.std.proofs.Common.{◌≡◌, ◌≢◌, ℕ, zero, suc, ◌<◌, ◌≤◌, Bool, true, false, nat_lt, List, [], ◌∷◌, length, map, slice_get, option_map, Option, Some, None, refl, sym, ap, ◌∙◌, arith}
use Rattle.std.specs.Prelude.{AllPairs}
use Rattle.std.proofs.lemmas.Bool.{ltb-true, ltb-false}
use Rattle.std.proofs.lemmas.Option.{slice_get_within, get_or_from_slice_get, slice_get-map}

element : {X : Type 0} (xs : List X) (i : ℕ) → i < length xs → (x : X) × (slice_get xs i ≡ Some x)
element [] i l = absurd (omega arith)
element (x ∷ xs) zero l = (x, refl)
element (x ∷ xs) (suc i) l = element xs i (omega arith)

module _ {A B : Type 0} (f : A → B) (xs : List A) (differ : AllPairs (λ x y. f x ≢ f y) xs) where
  never : (i j : ℕ) (x y : A) → i < j → slice_get xs i ≡ Some x → slice_get xs j ≡ Some y → f x ≡ f y → ⊥
  never i j x y lt a b e =
      differ i j x lt (slice_get_within xs j y b) (ap f (get_or_from_slice_get xs i x x a) ∙ e ∙ sym (ap f (get_or_from_slice_get xs j y x b)))

  one_place : (i j : ℕ) (x y : A) → slice_get xs i ≡ Some x → slice_get xs j ≡ Some y → f x ≡ f y → i ≡ j
  one_place i j x y a b e = at (nat_lt i j) refl (nat_lt j i) refl
    where
      at : (p : Bool) → nat_lt i j ≡ p → (q : Bool) → nat_lt j i ≡ q → i ≡ j
      at true h q g = absurd (never i j x y (ltb-true i j h) a b e)
      at false h true g = absurd (never j i y x (ltb-true j i g) b a (sym e))
      at false h false g = let up : j ≤ i = ltb-false i j h in let down : i ≤ j = ltb-false j i g in omega arith

  seen : (i : ℕ) (x : A) → slice_get xs i ≡ Some x → slice_get (map f xs) i ≡ Some (f x)
  seen i x e = slice_get-map f xs i ∙ ap (option_map f) e

  pub apart : (i j : ℕ) → i < length xs → slice_get (map f xs) i ≡ slice_get (map f xs) j → i ≡ j
  apart i j lt e = let first = element xs i lt in by first.0 first.1 (slice_get xs j) refl
    where
      by : (x : A) → slice_get xs i ≡ Some x → (o : Option A) → slice_get xs j ≡ o → i ≡ j
      by x a (Some y) b =
          let both : Some (f x) ≡ Some (f y) = sym (seen i x a) ∙ e ∙ seen j y b in
          let same : f x ≡ f y = cc in
          one_place i j x y a b same
      by x a None b =
          let both : Some (f x) ≡ None = sym (seen i x a) ∙ e ∙ slice_get-map f xs j ∙ ap (option_map f) b in
          cc
