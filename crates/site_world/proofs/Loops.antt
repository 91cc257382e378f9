-- Loops that put what they meet on a shelf, or under its name.
use Rattle.std.proofs.Common.{◌≡◌, ℕ, ◌+◌, ◌<◌, Bool, true, false, cond, List, [], ◌∷◌, ◌++◌, length, take, get_or, option_map, Option, Some, None, refl, sym, ap, ◌∙◌, arith}
use Rattle.std.specs.List.{find, position}
use Rattle.std.specs.Option.{option_or}
use Rattle.std.specs.Str.{bytes_eq}
use Rattle.std.proofs.lemmas.List.{length-take-le, take_more}
use Rattle.std.specs.Cmp.Lexicographic.{nat_list_eq_equiv}
use Rattle.site_base.specs.Plain.{Plain, get}
use Rattle.site_base.specs.View.{pairs_of, plain}
use Rattle.site_base.specs.declared.value.Pair.{Pair}
use Rattle.site_world.proofs.Pushes.{find-push, position-push}

-- what is found under each key, with one element more
module _ {K A B : Type 0} (test : K → A → Bool) (seen : A → B) where
  -- the first that passes, as it is seen
  abbrev first : K → List A → Option B
  first k xs = option_map seen (find (test k) xs)

  mapped : (o : Option A) (b : Bool) (x : A) → option_map seen (option_or o (cond b (Some x) None)) ≡ option_or (option_map seen o) (cond b (Some (seen x)) None)
  mapped None true x = refl
  mapped None false x = refl
  mapped (Some y) b x = refl

  pub one_more : (xs : List A) (i : ℕ) (x : A) → i < length xs → get_or xs i x ≡ x → (k : K) (old new : Option B)
      → new ≡ option_or old (cond (test k x) (Some (seen x)) None) → old ≡ first k (take i xs) → new ≡ first k (take (i + 1) xs)
  one_more xs i x lt at k old new step before =
      step ∙ ap (λ o. option_or o (cond (test k x) (Some (seen x)) None)) before
      ∙ sym (mapped (find (test k) (take i xs)) (test k x) x)
      ∙ ap (option_map seen) (sym (find-push (test k) (take i xs) x))
      ∙ ap (first k) (ap (λ y. take i xs ++ y ∷ []) (sym at) ∙ sym (take_more xs i x lt))

pub find_more : {K A : Type 0} (test : K → A → Bool) (xs : List A) (i : ℕ) (x : A) → i < length xs → get_or xs i x ≡ x → (k : K) (old new : Option A)
    → new ≡ option_or old (cond (test k x) (Some x) None) → old ≡ find (test k) (take i xs) → new ≡ find (test k) (take (i + 1) xs)
find_more test xs i x lt at k old new step before =
    step ∙ ap (λ o. option_or o (cond (test k x) (Some x) None)) before
    ∙ sym (find-push (test k) (take i xs) x)
    ∙ ap (find (test k)) (ap (λ y. take i xs ++ y ∷ []) (sym at) ∙ sym (take_more xs i x lt))

pub place_more : {K A : Type 0} (test : K → A → Bool) (xs : List A) (i : ℕ) (x : A) → i < length xs → get_or xs i x ≡ x → (k : K) (old new : Option ℕ)
    → new ≡ option_or old (cond (test k x) (Some i) None) → old ≡ position (test k) (take i xs) → new ≡ position (test k) (take (i + 1) xs)
place_more test xs i x lt at k old new step before =
    let long : length (take i xs) ≡ i = length-take-le i xs (omega arith) in
    step ∙ ap (λ o. option_or o (cond (test k x) (Some i) None)) before
    ∙ ap (λ n. option_or (position (test k) (take i xs)) (cond (test k x) (Some n) None)) (sym long)
    ∙ sym (position-push (test k) (take i xs) x)
    ∙ ap (position (test k)) (ap (λ y. take i xs ++ y ∷ []) (sym at) ∙ sym (take_more xs i x lt))

get-push : (k : List ℕ) (ps : List Pair) (p : Pair) → get k (pairs_of (ps ++ p ∷ [])) ≡ option_or (get k (pairs_of ps)) (cond (bytes_eq k p.key) (Some (plain p.value)) None)
get-push k [] p = elim (bytes_eq k p.key) as (λ b. cond b (Some (plain p.value)) None ≡ option_or None (cond b (Some (plain p.value)) None)) [ true ↦ refl | false ↦ refl ]
get-push k (q ∷ ps) p =
    elim (bytes_eq k q.key) as (λ b. cond b (Some (plain q.value)) (get k (pairs_of (ps ++ p ∷ []))) ≡ option_or (cond b (Some (plain q.value)) (get k (pairs_of ps))) (cond (bytes_eq k p.key) (Some (plain p.value)) None)) [
      | true ↦ refl
      | false ↦ get-push k ps p
    ]

pub pair_more : (ps : List Pair) (i : ℕ) (p : Pair) → i < length ps → get_or ps i p ≡ p → (k : List ℕ) (old new : Option Plain)
    → new ≡ option_or old (cond (bytes_eq p.key k) (Some (plain p.value)) None) → old ≡ get k (pairs_of (take i ps)) → new ≡ get k (pairs_of (take (i + 1) ps))
pair_more ps i p lt at k old new step before =
    step ∙ ap (λ o. option_or o (cond (bytes_eq p.key k) (Some (plain p.value)) None)) before
    ∙ ap (λ b. option_or (get k (pairs_of (take i ps))) (cond b (Some (plain p.value)) None)) (nat_list_eq_equiv.symm p.key k)
    ∙ sym (get-push k (take i ps) p)
    ∙ ap (λ qs. get k (pairs_of qs)) (ap (λ y. take i ps ++ y ∷ []) (sym at) ∙ sym (take_more ps i p lt))
