-- The first place that passes a test, from a place on.
use Rattle.std.proofs.Common.{◌≡◌, ℕ, suc, ◌+◌, ◌<◌, ◌≤◌, Bool, true, false, cond, List, [], ◌∷◌, length, drop, refl, sym, ap, ◌∙◌, arith, slice_range}
use Rattle.std.proofs.lemmas.List.{drop_all, drop-drop, length-drop}
use Rattle.std.proofs.lemmas.Slice.{between_to_end}
use Rattle.liquid_grammar.specs.Pieces.{first_place}

module _ (p : List ℕ → Bool) where
  place_cons : (xs : List ℕ) → 0 < length xs → first_place p xs ≡ cond (p xs) 0 (suc (first_place p (drop 1 xs)))
  place_cons [] lt = absurd (omega arith)
  place_cons (x ∷ xs) lt = refl

  pub place_step : (bs : List ℕ) (i : ℕ) → i < length bs → first_place p (drop i bs) ≡ cond (p (drop i bs)) 0 (suc (first_place p (drop (i + 1) bs)))
  place_step bs i lt = place_cons (drop i bs) (omega (arith, length-drop i bs)) ∙ rw (drop-drop 1 i bs) refl

  pub place_end : (bs : List ℕ) (i : ℕ) → length bs ≤ i → first_place p (drop i bs) ≡ 0
  place_end bs i le = ap (first_place p) (drop_all i bs le)

  bound : (b : Bool) (m n : ℕ) → m ≤ n → cond b 0 (suc m) ≤ suc n
  bound true m n h = omega arith
  bound false m n h = omega arith

  pub place_le : (bs : List ℕ) → first_place p bs ≤ length bs
  place_le [] = omega arith
  place_le (b ∷ bs) = bound (p (b ∷ bs)) (first_place p bs) (length bs) (place_le bs)

  -- the test's answer on a part that goes to the end, as a loop has it
  pub place_is : (bs : List ℕ) (at i : ℕ) (r : Bool) → i < length bs → r ≡ p (slice_range bs i (length bs)) → r ≡ true → i + first_place p (drop i bs) ≡ at + first_place p (drop at bs) → i ≡ at + first_place p (drop at bs)
  place_is bs at i r lt e t so_far =
      let here : p (drop i bs) ≡ true = ap p (sym (between_to_end bs i (length bs) (omega arith))) ∙ sym e ∙ t in
      let none : first_place p (drop i bs) ≡ 0 = place_step bs i lt ∙ rw here refl in
      omega arith

  pub place_on : (bs : List ℕ) (at i : ℕ) (r : Bool) → i < length bs → r ≡ p (slice_range bs i (length bs)) → r ≡ false → i + first_place p (drop i bs) ≡ at + first_place p (drop at bs) → (i + 1) + first_place p (drop (i + 1) bs) ≡ at + first_place p (drop at bs)
  place_on bs at i r lt e f so_far =
      let here : p (drop i bs) ≡ false = ap p (sym (between_to_end bs i (length bs) (omega arith))) ∙ sym e ∙ f in
      let one : first_place p (drop i bs) ≡ suc (first_place p (drop (i + 1) bs)) = place_step bs i lt ∙ rw here refl in
      omega arith

  place_at_cons : (x : ℕ) (xs : List ℕ) (b : Bool) → p (x ∷ xs) ≡ b → (first_place p xs < length xs → p (drop (first_place p xs) xs) ≡ true) → cond b 0 (suc (first_place p xs)) < suc (length xs) → p (drop (cond b 0 (suc (first_place p xs))) (x ∷ xs)) ≡ true
  place_at_cons x xs true e later lt = e
  place_at_cons x xs false e later lt = later (omega (arith, lt))

  -- the test holds at the first place
  pub place_at : (xs : List ℕ) → first_place p xs < length xs → p (drop (first_place p xs) xs) ≡ true
  place_at [] lt = absurd (omega arith)
  place_at (x ∷ xs) lt = place_at_cons x xs (p (x ∷ xs)) refl (place_at xs) lt
