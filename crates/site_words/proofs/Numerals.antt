-- What `parse` answers, in the words of the numbers of a command line.
use Rattle.std.proofs.Common.{◌≡◌, ◌∙◌, ℕ, ◌^◌, ◌<◌, ◌≤◌, Bool, cond, true, false, refl, sym, ap, arith, rules, List, length, Some, None, true≢false, lt-ltb, ltb-true, leb-true}
use Rattle.std.specs.Prelude.{nat_le, ◌&&◌}
use Rattle.std.specs.List.{list_all}
use Rattle.std.specs.Char.{is_ascii_digit}
use Rattle.std.specs.Str.Parse.{IsNumeral, digits_value, without_leading_plus}
use Rattle.std.proofs.lemmas.Str.Parse.{IsNumeralModel, numerals_by_value}
use Rattle.site_words.specs.Numbers.{is_digits, number_in}

own : IsNumeralModel (λ ds. list_all is_ascii_digit ds ≡ true) (digits_value 10)
own = numerals_by_value _ (search rules)

both : (a b : Bool) → (a && b) ≡ true → (a ≡ true) × (b ≡ true)
both true b e = (refl, e)
both false b e = absurd (true≢false (sym e))

is_false : (b : Bool) → (b ≡ true → ⊥) → b ≡ false
is_false true e = absurd (e refl)
is_false false e = refl

digits_of : (ds : List ℕ) → IsNumeral 10 ds → is_digits ds ≡ true
digits_of ds h = rw (own.from ds h.1, lt-ltb 0 (length ds) h.0) refl

numeral_of : (ds : List ℕ) → is_digits ds ≡ true → IsNumeral 10 ds
numeral_of ds e = let parts = both _ _ e in (ltb-true _ _ parts.1, own.to ds parts.0)

-- what `parse` reads at a `u64`
abbrev pub IsRead : List ℕ → Type 0
IsRead text = IsNumeral 10 (without_leading_plus text) × (digits_value 10 (without_leading_plus text) < 2 ^ 64)

-- a number that was read is in its range or not
pub read_in : (least most n : ℕ) (text : List ℕ) → IsRead text × (n ≡ digits_value 10 (without_leading_plus text))
    → number_in least most text ≡ cond (nat_le least n && nat_le n most) (Some n) None
read_in least most n text h =
    ap (λ t. cond (t && (nat_le least (digits_value 10 (without_leading_plus text)) && nat_le (digits_value 10 (without_leading_plus text)) most)) (Some (digits_value 10 (without_leading_plus text))) None)
    (digits_of (without_leading_plus text) h.0.0)
    ∙ ap (λ m. cond (nat_le least m && nat_le m most) (Some m) None) (sym h.1)

-- what is not read is no number in a range of `u64`
pub unread_in : (least most : ℕ) (text : List ℕ) → most < 2 ^ 64 → ¬ (IsRead text) → number_in least most text ≡ None
unread_in least most text small h =
    let value : ℕ = digits_value 10 (without_leading_plus text) in
    ap (λ t. cond t (Some (digits_value 10 (without_leading_plus text))) None) (is_false (is_digits (without_leading_plus text) && (nat_le least value && nat_le value most)) (λ is.
    let parts : (is_digits (without_leading_plus text) ≡ true) × ((nat_le least value && nat_le value most) ≡ true) = both (is_digits (without_leading_plus text)) (nat_le least value && nat_le value most) is in
    let range : (nat_le least value ≡ true) × (nat_le value most ≡ true) = both (nat_le least value) (nat_le value most) parts.1 in
    let within : value ≤ most = leb-true value most range.1 in
    h (numeral_of (without_leading_plus text) parts.0, omega (arith, within))))
