-- The number of an item, as `parse` reads it.
use Rattle.std.proofs.Common.{◌≡◌, ◌∙◌, Bool, List, [], ap, arith, false, length, refl, rules, subst, suc, sym, take, true, ℕ, ◌-◌, ◌<◌, ◌∷◌, ◌≤◌}
use Rattle.std.specs.List.{list_all}
use Rattle.std.specs.Str.Parse.{AllDigits, IsNumeral, digits_value, without_leading_plus}
use Rattle.std.proofs.lemmas.Str.Parse.{IsNumeralModel, digit_at, digits_value_short, numerals_by_value, without_leading_plus_none}
use Rattle.site_text.specs.Bytes.{is_digit}
use Rattle.site_text.specs.Fronts.{run_len}

own : IsNumeralModel (λ ds. list_all is_digit ds ≡ true) (digits_value 10)
own = numerals_by_value _ (search rules)

run_all : (t : List ℕ) → list_all is_digit (take (run_len is_digit t) t) ≡ true
run_all [] = refl
run_all (c ∷ cs) = go (is_digit c) refl (run_all cs) where
  go : (b : Bool) → is_digit c ≡ b → list_all is_digit (take (run_len is_digit cs) cs) ≡ true → list_all is_digit (take (elim b as (λ x. ℕ) [ true ↦ suc (run_len is_digit cs) | false ↦ 0 ]) (c ∷ cs)) ≡ true
  go true e h = grind (arith, e, h)
  go false e h = refl

-- from one to nine digits are a number below 2 ^ 32
pub not_refused : (t ds : List ℕ) (n : ℕ) → n ≡ run_len is_digit t → ds ≡ take (n - 0) t → 0 < length ds → length ds ≤ 9
    → ¬ (IsNumeral 10 (without_leading_plus ds) × (digits_value 10 (without_leading_plus ds) < 4294967296)) → ⊥
not_refused t ds n run cut some few h =
    let whole : n - 0 ≡ run_len is_digit t = omega (arith, run) in
    let all : list_all is_digit ds ≡ true = ap (λ (xs : List ℕ). list_all is_digit xs) (cut ∙ ap (λ (k : ℕ). take k t) whole) ∙ run_all t in
    let digits : AllDigits 10 ds = own.to ds all in
    let plain : without_leading_plus ds ≡ ds = without_leading_plus_none ds (λ bad. omega (arith, bad, (digit_at ds 0 digits some).0)) in
    let small : digits_value 10 ds < 4294967296 = omega (arith, digits_value_short own ds 9 all few) in
    h (subst (λ (xs : List ℕ). IsNumeral 10 xs × (digits_value 10 xs < 4294967296)) (sym plain) ((some, digits), small))
