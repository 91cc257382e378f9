-- A place found in what follows a place.
use Rattle.std.proofs.Common.{◌≡◌, ℕ, suc, ◌+◌, ◌<◌, ◌&&◌, Bool, true, false, cond, List, ◌∷◌, length, get_or, drop, Option, Some, None, refl, ap, sym, ◌∙◌, arith, drop-drop}
use Rattle.std.specs.Prelude.{◌==◌}
use Rattle.std.proofs.lemmas.List.{at_drop_more}
use Rattle.front_yaml.specs.PlainScalars.{first_colon, separates}
use Rattle.front_yaml.specs.Bytes.{later, added}

pub added_later : (i : ℕ) (o : Option ℕ) → added i (later o) ≡ added (i + 1) o
added_later i None = refl
added_later i (Some n) = ap (λ k. Some k) (let e : i + suc n ≡ (i + 1) + n = omega arith in e)

pub added_zero : (o : Option ℕ) → added 0 o ≡ o
added_zero None = refl
added_zero (Some n) = ap (λ k. Some k) (let e : 0 + n ≡ n = omega arith in e)

step : (b : Bool) (n : ℕ) (cs : List ℕ) → b ≡ false → added n (cond b (Some 0) (later (first_colon cs))) ≡ added (n + 1) (first_colon cs)
step true n cs e = cc
step false n cs e = added_later n (first_colon cs)

pub colon_step : (s : List ℕ) (n : ℕ) → n < length s → (get_or s n 0 == 58) && separates false (drop (n + 1) s) ≡ false → added n (first_colon (drop n s)) ≡ added (n + 1) (first_colon (drop (n + 1) s))
colon_step s n lt e = ap (added n) (at_drop_more first_colon s n 0 lt) ∙ step _ n (drop (n + 1) s) e

-- what is later by one is later by one byte
pub later_one : (o : Option ℕ) → later o ≡ added 1 o
later_one None = refl
later_one (Some n) = ap (λ k. Some k) (let e : suc n ≡ 1 + n = omega arith in e)

pub added_more : (k : ℕ) (o : Option ℕ) → later (added k o) ≡ added (1 + k) o
added_more k None = refl
added_more k (Some n) = ap (λ m. Some m) (let e : suc (k + n) ≡ (1 + k) + n = omega arith in e)

pub added_twice : (i k : ℕ) (o : Option ℕ) → added i (added k o) ≡ added (i + k) o
added_twice i k None = refl
added_twice i k (Some n) = ap (λ m. Some m) (let e : i + (k + n) ≡ (i + k) + n = omega arith in e)

-- a step over k bytes, at the place n of a text
pub stepped : (f g : List ℕ → Option ℕ) (s rest : List ℕ) (n k : ℕ) → n < length s → rest ≡ drop (n + 1) s
    → f (get_or s n 0 ∷ rest) ≡ added k (g (drop k (get_or s n 0 ∷ rest))) → added n (f (drop n s)) ≡ added (n + k) (g (drop (n + k) s))
stepped f g s rest n k lt e h =
    let here : drop n s ≡ get_or s n 0 ∷ rest = at_drop_more (λ xs. xs) s n 0 lt ∙ ap (λ xs. get_or s n 0 ∷ xs) (sym e) in
    ap (λ xs. added n (f xs)) here ∙ ap (added n) h ∙ added_twice n k _ ∙ ap (λ xs. added (n + k) (g (drop k xs))) (sym here) ∙ ap (λ xs. added (n + k) (g xs)) (drop-drop k n s)
