-- A list taken element by element, as what its elements show.
use Rattle.std.proofs.Common.{◌≡◌, ◌∙◌, ℕ, ◌+◌, ◌<◌, ◌≤◌, List, [], ◌∷◌, ◌++◌, length, map, drop, get_or, sym, ap, append_assoc, append-nil}
use Rattle.std.proofs.lemmas.List.{at_drop_more, at_drop_all, map-append}

module _ {A B : Type 0} (seen : A → B) (xs : List B) where
  -- one element more
  pub one_taken : (old new : List A) (i : ℕ) (x : A) → new ≡ old ++ x ∷ [] → i < length xs → seen x ≡ get_or xs i (seen x) → map seen old ++ drop i xs ≡ xs
      → map seen new ++ drop (i + 1) xs ≡ xs
  one_taken old new i x pushed inside is so_far =
      ap (λ (ys : List A). map seen ys ++ drop (i + 1) xs) pushed
      ∙ ap (λ (ys : List B). ys ++ drop (i + 1) xs) (map-append seen old (x ∷ []))
      ∙ append_assoc (map seen old) (seen x ∷ []) (drop (i + 1) xs)
      ∙ ap (λ (y : B). map seen old ++ y ∷ drop (i + 1) xs) is
      ∙ sym (at_drop_more (λ (ys : List B). map seen old ++ ys) xs i (seen x) inside)
      ∙ so_far

  -- all of them
  pub all_taken : (taken : List A) (i : ℕ) → length xs ≤ i → map seen taken ++ drop i xs ≡ xs → map seen taken ≡ xs
  all_taken taken i all so_far =
      sym (append-nil (map seen taken)) ∙ sym (at_drop_all (λ (ys : List B). map seen taken ++ ys) xs i all) ∙ so_far
