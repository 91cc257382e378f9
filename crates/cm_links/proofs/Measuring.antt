-- The characters of a label, counted and searched one after another.
use Rattle.std.proofs.Common.{◌≡◌, ◌∙◌, ap, sym, ℕ, ◌+◌, ◌≤◌, Bool, true, false, not, nat_le, List, [], ◌∷◌, ◌++◌, length, IsUtf8, chars, encode_utf8, arith}
use Rattle.std.proofs.lemmas.Str.{chars-nil, chars_past_char}
use Rattle.site_text.specs.Bytes.{is_white}
use Rattle.site_text.specs.Fronts.{has_one}

abbrev other : ℕ → Bool
other c = not (is_white c)

abbrev one_of : ℕ → List ℕ → Bool → Bool
one_of c cs w = elim (not w) as (λ x. Bool) [ true ↦ true | false ↦ has_one other cs ]

no_chars : (text : List ℕ) → length text ≡ 0 → chars text ≡ []
no_chars [] e = chars-nil
no_chars (c ∷ cs) e = absurd (omega (arith, e))

pub other_step : (text rest : List ℕ) (c : ℕ) (whole : Bool) → IsUtf8 text → text ≡ encode_utf8 c ++ rest → is_white c ≡ true → has_one other (chars text) ≡ whole → has_one other (chars rest) ≡ whole
other_step text rest c whole u e h k = sym (ap (has_one other) (chars_past_char text rest c u e) ∙ ap (one_of c (chars rest)) h) ∙ k

pub other_here : (text rest : List ℕ) (c : ℕ) (whole : Bool) → IsUtf8 text → text ≡ encode_utf8 c ++ rest → is_white c ≡ false → has_one other (chars text) ≡ whole → true ≡ whole
other_here text rest c whole u e h k = sym (ap (has_one other) (chars_past_char text rest c u e) ∙ ap (one_of c (chars rest)) h) ∙ k

pub no_other : (text : List ℕ) (whole : Bool) → length text ≡ 0 → has_one other (chars text) ≡ whole → false ≡ whole
no_other text whole e k = sym (ap (has_one other) (no_chars text e)) ∙ k

pub count_step : (text rest : List ℕ) (c count n : ℕ) → IsUtf8 text → text ≡ encode_utf8 c ++ rest → count + length (chars text) ≡ n → count + 1 + length (chars rest) ≡ n
count_step text rest c count n u e k = omega (arith, ap (λ (cs : List ℕ). length cs) (chars_past_char text rest c u e), k)

pub too_long : (text rest : List ℕ) (c count n : ℕ) → IsUtf8 text → text ≡ encode_utf8 c ++ rest → count ≡ 999 → count + length (chars text) ≡ n → false ≡ nat_le n 999
too_long text rest c count n u e h k = let more : 1000 ≤ n = omega (arith, ap (λ (cs : List ℕ). length cs) (chars_past_char text rest c u e), h, k) in grind (arith, more)

pub short_end : (text : List ℕ) (count n : ℕ) → length text ≡ 0 → count ≤ 999 → count + length (chars text) ≡ n → true ≡ nat_le n 999
short_end text count n e h k = let less : n ≤ 999 = omega (arith, ap (λ (cs : List ℕ). length cs) (no_chars text e), h, k) in grind (arith, less)
