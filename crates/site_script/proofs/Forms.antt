-- What the methods of a text give, in the words of the forms of a line.
use Rattle.std.proofs.Common.{◌≡◌, ◌≢◌, ℕ, ◌+◌, ◌-◌, ◌^◌, ◌≤◌, ◌<◌, ◌≤◌, Bool, true, false, List, [], ◌∷◌, length, take, drop, get_or, refl, sym, ◌∙◌, ap, subst, None, Result, Err, arith, rules, length-drop, leb-true}
use Rattle.std.specs.Prelude.{codes, nat_eq, nat_le, not, ◌&&◌, ◌==◌}
use Rattle.std.specs.List.{list_any, list_all, starts_with, suffix_len, before_last, after_last}
use Rattle.std.specs.Char.{is_ascii_digit}
use Rattle.std.specs.Str.{NoCharPasses}
use Rattle.std.specs.Str.Parse.{ParsesUnsigned, digits_value}
use Rattle.std.specs.Str.Pattern.{RFindsChar, SplitsAroundMatch}
use Rattle.std.proofs.lemmas.Bool.{ne_eqb}
use Rattle.std.proofs.lemmas.Grind.{get_or_default_zero}
use Rattle.std.proofs.lemmas.List.{get_or-drop}
use Rattle.std.proofs.lemmas.List.Folds.{list_any_at, list_any_none}
use Rattle.std.proofs.lemmas.List.Sums.{suffix_len_is}
use Rattle.std.proofs.lemmas.Str.Pattern.{NoCharPasses-char, drop_at_char}
use Rattle.std.proofs.lemmas.Str.Parse.{IsNumeralModel, numerals_by_value, parse_digits}
use Rattle.site_script.specs.Number.{is_number, number_up_to}
use Rattle.site_script.specs.Script.{is_space, long_form, put_form, put_of, head_of, form_of}
use Rattle.site_base.specs.declared.errors.Memory.{Memory}
use Rattle.std.specs.Result.{IfOk}
use Rattle.std.specs.Prelude.{if◌then◌else◌}
use Rattle.std.specs.Str.{IsUtf8, is_utf8}
use Rattle.std.proofs.lemmas.Str.{is_utf8-from_IsUtf8, IsUtf8-from_is_utf8}
use Rattle.std.proofs.lemmas.Bool.{le-ltb}
use Rattle.site_script.specs.declared.head.Head.{Head}
use Rattle.site_script.specs.declared.head.Head.TheVariants as head
use Rattle.site_script.specs.declared.line.ScriptKind.TheVariants as kind

-- a line that begins with none of the long forms' words
pub no_form : (line : List ℕ) → starts_with nat_eq line (codes "put ") ≡ false → starts_with nat_eq line (codes "delete ") ≡ false → starts_with nat_eq line (codes "time ") ≡ false
    → head.Bad kind.Unknown ≡ long_form line
no_form line a b c = rw (a, b, c) refl

-- where the last space is
pub record LastSpace (s path count : List ℕ) : Type 0 where
  pub some : list_any is_space s ≡ true
  pub before : before_last is_space s ≡ path
  pub after : after_last is_space s ≡ count

pub at_last_space : (s path count : List ℕ) → SplitsAroundMatch (RFindsChar 32) s path count → LastSpace s path count
at_last_space s path count (i, j, (none, at), front, back, le, front_len, back_len) =
    let split : drop i s ≡ 32 ∷ drop j s = drop_at_char 32 s i j at (omega arith) in
    let next : j ≡ i + 1 = at.ends in
    let within : i < length s = omega (arith, ap length split, length-drop i s) in
    let is : get_or s i 0 ≡ 32 = at.byte (omega arith) in
    let later : ((k : ℕ) → j ≤ k → k < length s → not (is_space (get_or s k 0)) ≡ true) = λ k low high.
    let other : get_or (drop j s) (k - j) 0 ≢ 32 = NoCharPasses-char 32 (drop j s) (k - j) none (omega arith) (omega (arith, length-drop j s)) in
    let same : get_or (drop j s) (k - j) 0 ≡ get_or s k 0 = get_or-drop j s (k - j) 0 ∙ ap (λ n. get_or s n 0) (omega arith) in
    ap not (ne_eqb (get_or s k 0) 32 (λ e. other (same ∙ e))) in
    let here : not (is_space (get_or s (j - 1) 0)) ≡ false = ap (λ n. not (is_space (get_or s n 0))) (omega arith) ∙ ap (λ b. not (b == 32)) is in
    let count_is : suffix_len (λ x. not (is_space x)) s ≡ length s - j = suffix_len_is (λ x. not (is_space x)) s j 0 (omega arith) later (λ _. here) in
    record {
      some = list_any_at is_space s i 0 within (ap (λ b. b == 32) is);
      before = ap (λ n. take n s) (omega (arith, count_is)) ∙ sym front;
      after = ap (λ n. drop n s) (omega (arith, count_is)) ∙ sym back;
    }

no_space : (s : List ℕ) → NoCharPasses (λ d. d == 32) s → list_any is_space s ≡ false
no_space s none = list_any_none is_space s (λ k d lt.
    let other : get_or s k 0 ≢ 32 = NoCharPasses-char 32 s k none (omega arith) lt in
    ap is_space (get_or_default_zero s k d lt) ∙ ne_eqb (get_or s k 0) 32 other)

pub no_space_put : (s : List ℕ) → NoCharPasses (λ d. d == 32) s → head.Bad kind.Unknown ≡ put_form s
no_space_put s none = ap (λ b. if b then put_of (before_last is_space s) (after_last is_space s) else head.Bad kind.Unknown) (sym (no_space s none))

pub put_at_last_space : (s path count : List ℕ) (result : Result Head Memory) → SplitsAroundMatch (RFindsChar 32) s path count → IfOk result (λ head. head ≡ put_of path count) → IfOk result (λ head. head ≡ put_form s)
put_at_last_space s path count result at done =
    let l = at_last_space s path count at in
    let is : put_form s ≡ put_of path count = rw (l.some, l.before, l.after) refl in
    subst (λ (h : Head). IfOk result (λ head. head ≡ h)) (sym is) done

is_false : (b : Bool) → (b ≡ true → ⊥) → b ≡ false
is_false true none = absurd (none refl)
is_false false none = refl

-- a line that is short enough, with text or without
pub text_head : (line : List ℕ) → length line ≤ 2048 → IsUtf8 line → head_of line ≡ form_of line
text_head line short text = rw (le-ltb _ _ short, is_utf8-from_IsUtf8 line text) refl

pub no_text_head : (line : List ℕ) → length line ≤ 2048 → (IsUtf8 line → ⊥) → head.Bad kind.NotText ≡ head_of line
no_text_head line short none =
    let fails : is_utf8 line ≡ false = is_false (is_utf8 line) (λ is. none (IsUtf8-from_is_utf8 line is)) in
    sym (rw (le-ltb _ _ short, fails) refl)

own : IsNumeralModel (λ ds. list_all is_ascii_digit ds ≡ true) (digits_value 10)
own = numerals_by_value _ (search rules)

and_true : (a b : Bool) → (a && b) ≡ true → (a ≡ true) × (b ≡ true)
and_true true b is = (refl, is)
and_true false b is = absurd (cc (is))

-- digits that `parse` refuses write no number that is small enough
pub no_number : {E : Type 0} (most : ℕ) (text : List ℕ) (e : E) → most < 2 ^ 64 → is_number text ≡ true → ParsesUnsigned {E = E} 64 10 text (Err e) → None ≡ number_up_to most text
no_number {E} most text e small is refused =
    let digits = and_true (list_all is_ascii_digit text) _ is in
    let some = and_true (not (length text == 0)) _ digits.1 in
    let large : nat_le (digits_value 10 text) most ≡ false = is_false _ (λ within.
    parse_digits own 64 text (Err e) refused digits.0 (some_length text some.0, omega (arith, leb-true _ _ within))) in
    sym (rw (is, large) refl)
  where
    some_length : (text : List ℕ) → not (length text == 0) ≡ true → 0 < length text
    some_length [] is = absurd (cc (is))
    some_length (b ∷ bs) is = omega arith
