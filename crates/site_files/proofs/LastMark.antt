-- What stands around the last of an ASCII character in a text.
use Rattle.std.proofs.Common.{◌≡◌, ◌≢◌, ℕ, ◌+◌, ◌-◌, ◌<◌, ◌≤◌, true, false, List, [], ◌∷◌, length, take, drop, get_or, refl, ◌∙◌, ap, arith, length-drop, eq-eqb}
use Rattle.std.specs.Prelude.{not, ◌==◌}
use Rattle.std.specs.List.{suffix_len, before_last, after_last}
use Rattle.std.specs.Str.{NoCharPasses}
use Rattle.std.specs.Str.Pattern.{RFindsChar, SplitsAroundMatch}
use Rattle.std.proofs.lemmas.Bool.{ne_eqb}
use Rattle.std.proofs.lemmas.List.{get_or-drop}
use Rattle.std.proofs.lemmas.List.Sums.{suffix_len_is}
use Rattle.std.proofs.lemmas.Str.{len_utf8_ascii}
use Rattle.std.proofs.lemmas.Str.Pattern.{NoCharPasses-char, drop_at_char}

pub record LastMark (c : ℕ) (s before after : List ℕ) : Type 0 where
  pub before_is : before ≡ before_last (λ b. b == c) s
  pub after_is : after ≡ after_last (λ b. b == c) s

-- a text split at the last of them
pub at_last : (c : ℕ) (s before after : List ℕ) → c < 128 → SplitsAroundMatch (RFindsChar c) s before after → LastMark c s before after
at_last c s before after small (i, j, (none, at), front, back, le, front_len, back_len) =
    let split : drop i s ≡ c ∷ drop j s = drop_at_char c s i j at small in
    let next : j ≡ i + 1 = at.ends ∙ ap (λ n. i + n) (len_utf8_ascii c small) in
    let within : i < length s = omega (arith, ap length split, length-drop i s) in
    let is : get_or s i 0 ≡ c = at.byte small in
    let later : ((k : ℕ) → j ≤ k → k < length s → not (get_or s k 0 == c) ≡ true) = λ k low high.
    let other : get_or (drop j s) (k - j) 0 ≢ c = NoCharPasses-char c (drop j s) (k - j) none small (omega (arith, length-drop j s)) in
    let same : get_or (drop j s) (k - j) 0 ≡ get_or s k 0 = get_or-drop j s (k - j) 0 ∙ ap (λ n. get_or s n 0) (omega arith) in
    ap not (ne_eqb (get_or s k 0) c (λ e. other (same ∙ e))) in
    let here : not (get_or s (j - 1) 0 == c) ≡ false = ap (λ n. not (get_or s n 0 == c)) (omega arith) ∙ ap (λ b. not (b == c)) is ∙ ap not (eq-eqb c c refl) in
    let count_is : suffix_len (λ x. not (x == c)) s ≡ length s - j = suffix_len_is (λ x. not (x == c)) s j 0 (omega arith) later (λ _. here) in
    record {
      before_is = front ∙ ap (λ n. take n s) (omega (arith, count_is));
      after_is = back ∙ ap (λ n. drop n s) (omega (arith, count_is));
    }

-- a text without one
pub no_mark : (c : ℕ) (s : List ℕ) → c < 128 → NoCharPasses (λ d. d == c) s → LastMark c s [] s
no_mark c s small none =
    let all : ((k : ℕ) → 0 ≤ k → k < length s → not (get_or s k 0 == c) ≡ true) = λ k low high.
    ap not (ne_eqb (get_or s k 0) c (NoCharPasses-char c s k none small high)) in
    let count_is : suffix_len (λ x. not (x == c)) s ≡ length s - 0 = suffix_len_is (λ x. not (x == c)) s 0 0 (omega arith) all (λ few. absurd (omega arith)) in
    record {
      before_is = ap (λ n. take n s) {x = 0} {y = length s - suffix_len (λ x. not (x == c)) s - 1} (omega (arith, count_is));
      after_is = ap (λ n. drop n s) {x = 0} {y = length s - suffix_len (λ x. not (x == c)) s} (omega (arith, count_is));
    }
