-- Where tokens end.
use Rattle.std.proofs.Common.{◌≡◌, ℕ, zero, suc, ◌+◌, ◌-◌, ◌<◌, ◌≤◌, Bool, true, false, cond, ltb, eqb, ◌&&◌, ◌||◌, List, [], ◌∷◌, length, take, drop, get_or, refl, sym, subst, arith, slice_index, not, ◌==◌, Option, Some, None, IfSome}
use Rattle.std.specs.List.{prefix_len}
use Rattle.std.specs.Str.{IsUtf8, IsCharBoundary}
use Rattle.std.specs.Str.Parse.{AllDigits, IsNumeral, without_leading_sign}
use Rattle.std.specs.Char.{digit_value}
use Rattle.std.proofs.lemmas.Bool.{ltb-true, eqb-true}
use Rattle.std.proofs.lemmas.Bool.Decides.{nat_tests}
use Rattle.std.proofs.lemmas.List.{length-drop, length-take, get_or-drop}
use Rattle.std.proofs.lemmas.List.Sums.{prefix_len_passes, prefix_len_stops, prefix_len-le-length}
use Rattle.std.proofs.lemmas.Str.{IsCharBoundary-after_ascii}
use Rattle.liquid_grammar.specs.Pieces.{is_white}
use Rattle.liquid_grammar.specs.Tokens.{sign_len, whole_len, fraction_len}
use Rattle.site_text.specs.Bytes.{is_digit, is_letter, is_name_byte, is_name_start}
use Rattle.liquid_grammar.specs.declared.mark.Mark.{Mark}
use Rattle.liquid_expr.specs.Token.{IsFound, IsWhole}

pub cut_at : (bs : List ℕ) (n : ℕ) → IsUtf8 bs → 0 < n → n ≤ length bs → get_or bs (n - 1) 0 < 128 → IsCharBoundary bs n
cut_at bs n u some within ascii =
    let k : (n - 1) + 1 ≡ n = omega arith in
    subst (IsCharBoundary bs) k (IsCharBoundary-after_ascii bs (n - 1) u (omega arith) ascii)

pub digit_ascii : (c : ℕ) → is_digit c ≡ true → c < 128
digit_ascii c e = grind (arith, nat_tests)

pub name_ascii : (c : ℕ) → is_name_byte c ≡ true → c < 128
name_ascii c e = grind (arith, nat_tests)

or_in : (a b d h : Bool) → (a || b) ≡ true → ((a || d) || (b || h)) ≡ true
or_in true b d h e = refl
or_in false true true h e = refl
or_in false true false h e = refl
or_in false false d h e = absurd cc

pub start_is_name : (c : ℕ) → is_name_start c ≡ true → is_name_byte c ≡ true
start_is_name c e = or_in (is_letter c) (c == 95) (is_digit c) (c == 45) e

-- the last byte of a front that passes a test of ASCII
pub white_ascii : (c : ℕ) → is_white c ≡ true → c < 128
white_ascii c e = grind (arith, nat_tests)

pub last_ascii : (p : ℕ → Bool) → ((c : ℕ) → p c ≡ true → c < 128) → (xs : List ℕ) → 0 < prefix_len p xs → get_or xs (prefix_len p xs - 1) 0 < 128
last_ascii p ascii xs some = ascii (get_or xs (prefix_len p xs - 1) 0) (prefix_len_passes p xs (prefix_len p xs - 1) 0 (omega arith))

-- a letter at the front makes a name
some_if : (b : Bool) (n : ℕ) → b ≡ true → 0 < cond b (1 + n) 0
some_if true n e = omega arith
some_if false n e = absurd cc

pub name_some : (xs : List ℕ) → 0 < length xs → is_name_start (slice_index xs 0) ≡ true → 0 < prefix_len is_name_byte xs
name_some [] lt e = absurd (omega arith)
name_some (c ∷ cs) lt e = some_if (is_name_byte c) (prefix_len is_name_byte cs) (start_is_name c e)

-- ---- Whole numbers

pub record WholeParts (bs : List ℕ) (n : ℕ) : Type 0 where
  pub len : n ≡ sign_len bs + prefix_len is_digit (drop (sign_len bs) bs)
  pub some : 0 < prefix_len is_digit (drop (sign_len bs) bs)

if_some : (k m n : ℕ) → n ≡ cond (ltb 0 k) m 0 → 0 < n → (n ≡ m) × (0 < k)
if_some k m n e lt = at (ltb 0 k) refl e where
  at : (b : Bool) → ltb 0 k ≡ b → n ≡ cond b m 0 → (n ≡ m) × (0 < k)
  at true h f = (f, ltb-true 0 k h)
  at false h f = absurd (omega (arith, f, lt))

whole_parts : (bs : List ℕ) (n : ℕ) → 0 < n → n ≡ whole_len bs → WholeParts bs n
whole_parts bs n lt e =
    let k = prefix_len is_digit (drop (sign_len bs) bs) in
    let parts = if_some k (sign_len bs + k) n e lt in
    record { len = parts.0; some = parts.1 }

sign_le : (bs : List ℕ) → sign_len bs ≤ length bs
sign_le [] = omega arith
sign_le (c ∷ cs) = at_most (eqb c 45) (length cs) where
  at_most : (b : Bool) (n : ℕ) → cond b 1 0 ≤ suc n
  at_most true n = omega arith
  at_most false n = omega arith

whole_within : (bs : List ℕ) (n : ℕ) → WholeParts bs n → n ≤ length bs
whole_within bs n parts = omega (arith, sign_le bs, parts.len, prefix_len-le-length is_digit (drop (sign_len bs) bs), length-drop (sign_len bs) bs)

whole_last : (bs : List ℕ) (n : ℕ) → WholeParts bs n → get_or bs (n - 1) 0 < 128
whole_last bs n parts =
    let s = sign_len bs in
    let k = prefix_len is_digit (drop s bs) in
    let place : s + (k - 1) ≡ n - 1 = omega (arith, parts.len, parts.some) in
    subst (λ i. get_or bs i 0 < 128) place (subst (λ c. c < 128) (get_or-drop s bs (k - 1) 0) (last_ascii is_digit digit_ascii (drop s bs) parts.some))

digit_below : (c : ℕ) → is_digit c ≡ true → digit_value c < 10
digit_below c e = grind (arith, nat_tests)

digits_at : (c : ℕ) (cs : List ℕ) (b : Bool) → is_digit c ≡ b → AllDigits 10 (take (prefix_len is_digit cs) cs) → AllDigits 10 (take (cond b (1 + prefix_len is_digit cs) 0) (c ∷ cs))
digits_at c cs true e rest =
    let one : suc (prefix_len is_digit cs) ≡ 1 + prefix_len is_digit cs = omega arith in
    let both : AllDigits 10 (c ∷ take (prefix_len is_digit cs) cs) = (digit_below c e, rest) in
    subst (λ n. AllDigits 10 (take n (c ∷ cs))) one both
digits_at c cs false e rest = tt

digits_of : (xs : List ℕ) → AllDigits 10 (take (prefix_len is_digit xs) xs)
digits_of [] = tt
digits_of (c ∷ cs) = digits_at c cs (is_digit c) refl (digits_of cs)

numeral_of : (xs : List ℕ) → 0 < prefix_len is_digit xs → IsNumeral 10 (take (prefix_len is_digit xs) xs)
numeral_of xs some = (omega (arith, length-take (prefix_len is_digit xs) xs, prefix_len-le-length is_digit xs), digits_of xs)

first_digit : (c : ℕ) (cs : List ℕ) → 0 < prefix_len is_digit (c ∷ cs) → is_digit c ≡ true
first_digit c cs some = at (is_digit c) refl some where
  at : (b : Bool) → is_digit c ≡ b → 0 < cond b (1 + prefix_len is_digit cs) 0 → is_digit c ≡ true
  at true e lt = e
  at false e lt = absurd (omega (arith, lt))

no_plus : (c : ℕ) → is_digit c ≡ true → eqb c 43 ≡ false
no_plus c e = grind (arith, nat_tests)

-- the digits behind a sign, or without one
unsigned : (c : ℕ) (cs : List ℕ) (b : Bool) → eqb c 45 ≡ b → 0 < prefix_len is_digit (drop (cond b 1 0) (c ∷ cs)) → IsNumeral 10 (without_leading_sign (take (cond b 1 0 + prefix_len is_digit (drop (cond b 1 0) (c ∷ cs))) (c ∷ cs)))
unsigned c cs true e some =
    let one : suc (prefix_len is_digit cs) ≡ 1 + prefix_len is_digit cs = omega arith in
    subst (λ n. IsNumeral 10 (without_leading_sign (take n (c ∷ cs)))) one (rw e (numeral_of cs some))
unsigned c cs false e some =
    let k = prefix_len is_digit cs in
    let d : is_digit c ≡ true = first_digit c cs some in
    let plus : eqb c 43 ≡ false = no_plus c d in
    let digits : IsNumeral 10 (c ∷ take k cs) = (omega arith, (digit_below c d, digits_of cs)) in
    let plain : IsNumeral 10 (without_leading_sign (c ∷ take k cs)) = rw (e, plus) digits in
    let n_is : suc k ≡ 0 + cond (is_digit c) (1 + k) 0 = rw d (omega arith) in
    subst (λ n. IsNumeral 10 (without_leading_sign (take n (c ∷ cs)))) n_is plain

whole_numeral : (bs : List ℕ) (n : ℕ) → WholeParts bs n → IsNumeral 10 (without_leading_sign (take n bs))
whole_numeral [] n parts = absurd (omega (arith, parts.some))
whole_numeral (c ∷ cs) n parts = subst (λ k. IsNumeral 10 (without_leading_sign (take k (c ∷ cs)))) (sym parts.len) (unsigned c cs (eqb c 45) refl parts.some)

pub is_whole : (bs : List ℕ) (n : ℕ) → n ≡ whole_len bs → 0 < n → IsWhole bs n
is_whole bs n e lt =
    let parts = whole_parts bs n lt e in
    record { within = whole_within bs n parts; last = whole_last bs n parts; numeral = whole_numeral bs n parts }

-- ---- Quotes and marks

pub unquoted_stops : (quote : ℕ) (xs : List ℕ) → prefix_len (λ c. not (c == quote)) xs < length xs → get_or xs (prefix_len (λ c. not (c == quote)) xs) 0 ≡ quote
unquoted_stops quote xs lt = eqb-true (get_or xs (prefix_len (λ c. not (c == quote)) xs) 0) quote (not_not _ (prefix_len_stops (λ c. not (c == quote)) xs 0 lt)) where
  not_not : (b : Bool) → not b ≡ false → b ≡ true
  not_not true e = refl
  not_not false e = absurd cc

pub short_found : (bs : List ℕ) (r : Option (Mark × ℕ)) → 1 ≤ length bs → IfSome r (λ f. (f.1 ≡ 1) × (get_or bs 0 0 < 128)) → IfSome r (λ f. IsFound bs f.1)
short_found bs None le h = tt
short_found bs (Some f) le h = record {
  some = omega (arith, h.0);
  within = omega (arith, h.0);
  cut = λ u. subst (IsCharBoundary bs) (sym h.0) (cut_at bs 1 u (omega arith) le h.1);
}

fraction_if : (b : Bool) (c k : ℕ) (cs : List ℕ) → (0 < k → get_or cs (k - 1) 0 < 128) → (b ≡ true → 0 < k) → 0 < cond b (suc k) 0 → get_or (c ∷ cs) (cond b (suc k) 0 - 1) 0 < 128
fraction_if true c zero cs h some lt = absurd (omega (arith, some refl))
fraction_if true c (suc k) cs h some lt =
    let e : suc (suc k - 1) ≡ suc (suc k) - 1 = omega arith in
    subst (λ i. get_or (c ∷ cs) i 0 < 128) e (h (omega arith))
fraction_if false c k cs h some lt = absurd (omega (arith, lt))

pub fraction_ascii : (bs : List ℕ) → 0 < fraction_len bs → slice_index bs (fraction_len bs - 1) < 128
fraction_ascii [] lt = absurd (omega (arith, lt))
fraction_ascii (c ∷ cs) lt =
    let k = prefix_len is_digit cs in
    fraction_if (eqb c 46 && ltb 0 k) c k cs (last_ascii is_digit digit_ascii cs) (λ e. ltb-true 0 k (and-right (eqb c 46) (ltb 0 k) e)) lt where
      and-right : (a b : Bool) → (a && b) ≡ true → b ≡ true
      and-right true b e = e
      and-right false b e = absurd cc
