-- Whole numbers as they are written.
use Rattle.std.proofs.Common.{◌≡◌, ℕ, zero, suc, ◌<◌, Bool, true, false, cond, eqb, ◌&&◌, not, List, [], ◌∷◌, length, refl, sym, ap, ◌∙◌, arith, ltb}
use Rattle.std.specs.List.{list_all, position_or_len, before_first, after_first}
use Rattle.std.specs.Str.Parse.{AllDigits, IsNumeral, without_leading_sign}
use Rattle.std.specs.Char.{digit_value}
use Rattle.std.proofs.lemmas.Bool.{lt-ltb}
use Rattle.std.proofs.lemmas.Bool.Decides.{nat_tests}
use Rattle.site_text.specs.Bytes.{is_digit}
use Rattle.filter_base.specs.Numerals.{is_digits, is_whole, is_dot, is_decimal}

both_true : (a b : Bool) → (a && b) ≡ true → (a ≡ true) × (b ≡ true)
both_true true b e = (refl, e)
both_true false b e = absurd cc

digit_below : (c : ℕ) → is_digit c ≡ true → digit_value c < 10
digit_below c e = grind (arith, nat_tests)

no_plus : (c : ℕ) → is_digit c ≡ true → eqb c 43 ≡ false
no_plus c e = grind (arith, nat_tests)

all_digits : (ds : List ℕ) → list_all is_digit ds ≡ true → AllDigits 10 ds
all_digits [] e = tt
all_digits (c ∷ cs) e = let p = both_true (is_digit c) (list_all is_digit cs) e in (digit_below c p.0, all_digits cs p.1)

some_digits : (n : ℕ) → not (eqb n 0) ≡ true → 0 < n
some_digits zero e = absurd cc
some_digits (suc n) e = omega arith

digits_numeral : (ds : List ℕ) → is_digits ds ≡ true → IsNumeral 10 ds
digits_numeral ds e = let p = both_true (not (eqb (length ds) 0)) (list_all is_digit ds) e in (some_digits (length ds) p.0, all_digits ds p.1)

first_digit : (c : ℕ) (cs : List ℕ) → is_digits (c ∷ cs) ≡ true → is_digit c ≡ true
first_digit c cs e = let p = both_true (not (eqb (length (c ∷ cs)) 0)) (list_all is_digit (c ∷ cs)) e in (both_true (is_digit c) (list_all is_digit cs) p.1).0

unsigned : (c : ℕ) (cs : List ℕ) (b : Bool) → eqb c 45 ≡ b → is_digits (cond b cs (c ∷ cs)) ≡ true → IsNumeral 10 (without_leading_sign (c ∷ cs))
unsigned c cs true e h = rw e (digits_numeral cs h)
unsigned c cs false e h =
    let plus : eqb c 43 ≡ false = no_plus c (first_digit c cs h) in
    rw (e, plus) (digits_numeral (c ∷ cs) h)

pub whole_numeral : (t : List ℕ) → is_whole t ≡ true → IsNumeral 10 (without_leading_sign t)
whole_numeral [] e = absurd cc
whole_numeral (c ∷ cs) e = unsigned c cs (eqb c 45) refl e

pub decimal_parts : (t front digits : List ℕ) → position_or_len is_dot t < length t → front ≡ before_first is_dot t → digits ≡ after_first is_dot t → is_whole front ≡ true → is_digits digits ≡ is_decimal t
decimal_parts t front digits lt e d h =
    let dot : ltb (position_or_len is_dot t) (length t) ≡ true = lt-ltb _ _ lt in
    let whole : is_whole (before_first is_dot t) ≡ true = ap is_whole (sym e) ∙ h in
    rw (dot, whole) (ap is_digits d)
