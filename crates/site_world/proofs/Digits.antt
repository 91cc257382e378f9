-- Digits told from the last to the first.
use Rattle.std.proofs.Common.{◌≡◌, ℕ, ◌+◌, ◌/◌, ◌%◌, ◌<◌, ◌≤◌, List, [], ◌∷◌, ◌++◌, length, refl, sym, ap, ◌∙◌, ◌↔◌, arith, cond, Bool, true, false, nat_lt}
use Rattle.std.proofs.lemmas.Bool.{ltb-true, ltb-false, lt-ltb, le-ltb}
use Rattle.std.proofs.lemmas.List.{length_push, nil_from_length, same_from_push}
use Rattle.site_base.specs.Decimal.{decimal}
use Rattle.site_base.proofs.DecimalLaws.{decimal_small, decimal_large}

-- the digits before the last
abbrev pub front : ℕ → List ℕ
front n = cond (nat_lt n 10) [] (decimal (n / 10))

pub ends : (n : ℕ) → decimal n ≡ front n ++ (48 + n % 10) ∷ []
ends n = at (nat_lt n 10) refl
  where
    at : (b : Bool) → nat_lt n 10 ≡ b → decimal n ≡ cond b [] (decimal (n / 10)) ++ (48 + n % 10) ∷ []
    at true e = let small : n < 10 = ltb-true n 10 e in decimal_small n small ∙ ap (λ m. (48 + m) ∷ []) (omega arith)
    at false e = decimal_large n (ltb-false n 10 e)

pub is_last : (rest : List ℕ) (last n : ℕ) → rest ++ last ∷ [] ≡ decimal n → last ≡ 48 + n % 10
is_last rest last n e = (same_from_push rest (front n) last (48 + n % 10) (e ∙ ends n)).1

pub is_front : (rest : List ℕ) (last n : ℕ) → rest ++ last ∷ [] ≡ decimal n → rest ≡ front n
is_front rest last n e = (same_from_push rest (front n) last (48 + n % 10) (e ∙ ends n)).0

pub joined : (rest : List ℕ) (last n : ℕ) → rest ≡ front n → last ≡ 48 + n % 10 → rest ++ last ∷ [] ≡ decimal n
joined rest last n e l = (λ i. e i ++ l i ∷ []) ∙ sym (ends n)

pub not_empty : (n : ℕ) → [] ≡ decimal n → ⊥
not_empty n e = (omega (arith, ap length (e ∙ ends n), length_push (front n) (48 + n % 10)))

-- what the bytes are, from their last and those before it
module _ (digits rest : List ℕ) (last n : ℕ) (cut : digits ≡ rest ++ last ∷ []) where
  pub other_last : (last ≡ 48 + n % 10 → ⊥) → digits ≡ decimal n → ⊥
  other_last never e = never (is_last rest last n (sym cut ∙ e))

  pub small : n < 10 → last ≡ 48 + n % 10 → (length rest ≡ 0) ↔ (digits ≡ decimal n)
  small lt l =
      let none : front n ≡ [] = ap (λ b. cond b [] (decimal (n / 10))) (lt-ltb n 10 lt) in (
        λ e. cut ∙ joined rest last n (nil_from_length rest e ∙ sym none) l,
        λ e. ap length (is_front rest last n (sym cut ∙ e) ∙ none),
      )

  pub large : 10 ≤ n → last ≡ 48 + n % 10 → (rest ≡ decimal (n / 10)) ↔ (digits ≡ decimal n)
  large le l =
      let more : front n ≡ decimal (n / 10) = ap (λ b. cond b [] (decimal (n / 10))) (le-ltb n 10 le) in (
        λ e. cut ∙ joined rest last n (e ∙ sym more) l,
        λ e. is_front rest last n (sym cut ∙ e) ∙ more,
      )
