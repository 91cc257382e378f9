-- What searches give over a list with one more element.
use Rattle.std.proofs.Common.{◌≡◌, ◌≤◌, Bool, true, false, cond, List, [], ◌∷◌, ◌++◌, length, Some, None, refl, ap, arith}
use Rattle.std.specs.List.{find, position, position_or_len, list_all}
use Rattle.std.specs.Option.{option_or}
use Rattle.std.specs.Prelude.{◌&&◌}
use Rattle.std.proofs.lemmas.Grind.{common_steps}
use Rattle.std.proofs.lemmas.List.Folds.{position_or_len_push}

pub find-push : {A : Type 0} (test : A → Bool) (xs : List A) (x : A) → find test (xs ++ x ∷ []) ≡ option_or (find test xs) (cond (test x) (Some x) None)
find-push test [] x = elim (test x) as (λ b. cond b (Some x) None ≡ option_or None (cond b (Some x) None)) [ true ↦ refl | false ↦ refl ]
find-push test (y ∷ xs) x =
    elim (test y) as (λ b. cond b (Some y) (find test (xs ++ x ∷ [])) ≡ option_or (cond b (Some y) (find test xs)) (cond (test x) (Some x) None)) [
      | true ↦ refl
      | false ↦ find-push test xs x
    ]

position_or_len-bound : {A : Type 0} (test : A → Bool) (xs : List A) → position_or_len test xs ≤ length xs
position_or_len-bound test [] = omega arith
position_or_len-bound test (x ∷ xs) = grind (arith, position_or_len-bound test xs)

pub position-push : {A : Type 0} (test : A → Bool) (xs : List A) (x : A) → position test (xs ++ x ∷ []) ≡ option_or (position test xs) (cond (test x) (Some (length xs)) None)
position-push test xs x = grind (arith, common_steps, position_or_len-bound test xs, position_or_len_push test xs x)

pub list_all-push : {A : Type 0} (test : A → Bool) (xs : List A) (x : A) → list_all test xs ≡ true → test x ≡ true → list_all test (xs ++ x ∷ []) ≡ true
list_all-push test [] x h t = ap (λ b. b && true) t
list_all-push test (y ∷ xs) x h t = at (test y) (λ g. list_all-push test xs x g t) h
  where
    at : (b : Bool) → (list_all test xs ≡ true → list_all test (xs ++ x ∷ []) ≡ true) → (b && list_all test xs) ≡ true → (b && list_all test (xs ++ x ∷ [])) ≡ true
    at true rest g = rest g
    at false rest g = g
