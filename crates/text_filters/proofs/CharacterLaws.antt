-- Texts cut behind some characters, and lists of values behind some items.
use Rattle.std.proofs.Common.{◌≡◌, ◌∙◌, ℕ, zero, suc, ◌+◌, ◌-◌, ◌≤◌, ◌<◌, List, [], ◌∷◌, ◌++◌, length, take, drop, refl, sym, ap, subst, arith, length-append}
use Rattle.std.specs.Prelude.{Option, Some, None, min}
use Rattle.std.specs.Char.{encode_utf8}
use Rattle.std.specs.Str.{IsUtf8, IsCharBoundary, chars, encode_utf8_all}
use Rattle.std.specs.Str.Iter.{chars_rest, chars_steps}
use Rattle.std.specs.declared.str.Chars.{Chars}
use Rattle.std.proofs.lemmas.List.{take-append-drop, take_at, take_min}
use Rattle.std.proofs.lemmas.Str.{chars_past_char, chars-nil, encodes-append, encodes-chars, IsCharBoundary-at_seam}
use Rattle.site_base.specs.Plain.{item}
use Rattle.site_base.specs.View.{plain, items_of}
use Rattle.site_base.specs.declared.value.Value.{Value}
use Rattle.text_filters.specs.Characters.{chars_from, chars_upto}
use Rattle.text_filters.specs.Spans.{items_from, items_upto}

pub first_char : (t rest : List ℕ) (before after : Chars) (r : Option ℕ) → chars_rest before ≡ t → rest ≡ chars_rest after → chars_steps before r after → 0 < length t → IsUtf8 t
    → (c : ℕ) × (chars t ≡ c ∷ chars rest)
first_char t rest before after None e f h some u = absurd (omega (arith, ap length e, h.0.0))
first_char t rest before after (Some c) e f h some u = (c, chars_past_char t rest c u (sym e ∙ h.0 ∙ ap (λ (s : List ℕ). encode_utf8 c ++ s) (sym f)))

pub all_from : (n : ℕ) (t : List ℕ) → n ≤ 0 → IsUtf8 t → t ≡ chars_from n t
all_from zero t le u = sym (encodes-chars t u)
all_from (suc n) t le u = absurd (omega arith)

nothing_from : (n : ℕ) (cs : List ℕ) → cs ≡ [] → [] ≡ encode_utf8_all (drop n cs)
nothing_from zero [] e = refl
nothing_from (suc n) [] e = refl
nothing_from n (c ∷ cs) e = absurd cc

pub empty_from : (n : ℕ) (t : List ℕ) → length t ≡ 0 → t ≡ chars_from n t
empty_from n [] e = nothing_from n (chars []) chars-nil
empty_from n (c ∷ t) e = absurd (omega arith)

pub whole_text : (n : ℕ) (t : List ℕ) → IsUtf8 t → chars_upto n t ++ chars_from n t ≡ t
whole_text n t u = sym (encodes-append (take n (chars t)) (drop n (chars t))) ∙ ap encode_utf8_all (take-append-drop n (chars t)) ∙ encodes-chars t u

module _ (n : ℕ) (t rest : List ℕ) (u : IsUtf8 t) (e : rest ≡ chars_from n t) where
  pub lengths_of : length (chars_upto n t) + length rest ≡ length t
  lengths_of = omega (arith, ap length (whole_text n t u), length-append (chars_upto n t) (chars_from n t), ap length e)

  pub cut_upto : IsUtf8 rest → IsCharBoundary t (length t - length rest)
  cut_upto text =
      let place : length (chars_upto n t) ≡ length t - length rest = omega (arith, lengths_of) in
      subst (IsCharBoundary t) place (IsCharBoundary-at_seam t (chars_upto n t) (chars_from n t) (sym (whole_text n t u)) (subst IsUtf8 e text))

  pub taken_upto : take (length t - length rest) t ≡ chars_upto n t
  taken_upto =
      ap (take (length t - length rest)) (sym (whole_text n t u))
      ∙ take_at (chars_upto n t) (chars_from n t) (length t - length rest) (omega (arith, lengths_of))

-- ---- items

pub fewer : (n m : ℕ) (vs : List Value) → m ≡ min (length vs) n → take m vs ≡ take n vs
fewer n m vs e =
    let turned : m ≡ min n (length vs) = omega (arith, e) in
    ap (λ k. take k vs) turned ∙ take_min n vs

pub items_behind : (n : ℕ) (vs : List Value) → items_of (drop n vs) ≡ items_from n (items_of vs)
items_behind zero vs = refl
items_behind (suc n) [] = refl
items_behind (suc n) (v ∷ vs) = items_behind n vs

pub items_before : (n : ℕ) (vs : List Value) → items_of (take n vs) ≡ items_upto n (items_of vs)
items_before zero vs = refl
items_before (suc n) [] = refl
items_before (suc n) (v ∷ vs) = ap (item (plain v)) (items_before n vs)
