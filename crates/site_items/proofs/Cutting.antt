-- Texts cut at their first mark, and what stands at their end.
use Rattle.std.proofs.Common.{◌≡◌, ℕ, ◌+◌, ◌-◌, ◌<◌, Bool, true, false, List, [], ◌∷◌, length, take, drop, get_or, refl, ap, sym, ◌∙◌, arith, length-drop, Bor, Some, None, inl, inr, rules, subst, lit<, nat_lt, true≢false}
use Rattle.std.specs.Prelude.{Option, MatchOption, IfSome, ◌==◌, not, position}
use Rattle.std.specs.List.{slice_split, position_or_len}
use Rattle.std.specs.Str.{IsCharBoundary, IsUtf8}
use Rattle.std.proofs.lemmas.Bool.{cases_lt, ne_eqb}
use Rattle.std.proofs.lemmas.List.Quantifiers.{position-Some}
use Rattle.std.proofs.lemmas.List.Sums.{position_or_len_is, prefix_len-le-length}
use Rattle.std.proofs.lemmas.List.Splits.{slice_split_first, slice_split-cons_no}
use Rattle.std.proofs.lemmas.Str.{IsCharBoundary-after_ascii, IsCharBoundary-before_ascii, IsCharBoundary-end, IsCharBoundary-from_drop}
use Rattle.std.proofs.lemmas.Str.Pattern.{IsSplitOnceResult, split_once_first}
use Rattle.site_items.specs.Labels.{is_white}

-- where none passes, the text is the one part
pub no_cut : (p : ℕ → Bool) (s : List ℕ) → position_or_len p s ≡ length s → slice_split p s ≡ s ∷ []
no_cut p [] e = refl
no_cut p (b ∷ s) e = at_first (no_cut p s) (p b) refl
  where
    at_first : (position_or_len p s ≡ length s → slice_split p s ≡ s ∷ []) → (v : Bool) → p b ≡ v → slice_split p (b ∷ s) ≡ (b ∷ s) ∷ []
    at_first more true at = let none : position_or_len p (b ∷ s) ≡ 0 = rw at refl in let some : length (b ∷ s) ≡ length s + 1 = search rules in absurd (omega (arith, none, some, e))
    at_first more false at =
        let next : position_or_len p (b ∷ s) ≡ position_or_len p s + 1 = rw at (search rules) in
        let some : length (b ∷ s) ≡ length s + 1 = search rules in
        let rest : position_or_len p s ≡ length s = omega (arith, next, some, e) in
        slice_split-cons_no p b s at ∙ rw (more rest) refl

-- what `split_once` gives, as parts
pub cut_parts : (c : ℕ) (s : List ℕ) (r : Option (Bor (List ℕ) × Bor (List ℕ))) → IsSplitOnceResult c s r → c < 128
    → MatchOption r (slice_split (λ b. b == c) s ≡ s ∷ []) (λ cut. slice_split (λ b. b == c) s ≡ cut.0.now ∷ slice_split (λ b. b == c) cut.1.now)
cut_parts c s None h small = no_cut (λ b. b == c) s (split_once_first c s None h small)
cut_parts c s (Some cut) h small =
    let found = split_once_first c s (Some cut) h small in
    slice_split_first (λ b. b == c) s 0 found.0 ∙ rw (sym found.1, sym found.2) refl

pub cut_shorter : (c : ℕ) (s : List ℕ) (r : Option (Bor (List ℕ) × Bor (List ℕ))) → IsSplitOnceResult c s r → c < 128 → IfSome r (λ cut. length cut.1.now < length s)
cut_shorter c s None h small = tt
cut_shorter c s (Some cut) h small =
    let found = split_once_first c s (Some cut) h small in
    let len : length cut.1.now ≡ length s - (position_or_len (λ b. b == c) s + 1) = ap length found.2 ∙ length-drop (position_or_len (λ b. b == c) s + 1) s in
    omega (arith, len, found.0)

-- before what stands at a text's end, the text may be cut
pub cut_before_end : (s e : List ℕ) (i : ℕ) → e ≡ drop i s → IsUtf8 e → IsCharBoundary s (length s - length e)
cut_before_end s e i is utf8 = elim (cases_lt i (length s)) [
  | inl inside ↦
      let len : length e ≡ length s - i = ap length is ∙ length-drop i s in
      let place : length s - length e ≡ i = omega (arith, len, inside) in
      let rest : IsUtf8 (drop i s) = subst IsUtf8 is utf8 in
      subst (IsCharBoundary s) (sym place) (IsCharBoundary-from_drop s i (omega (arith, inside)) rest)
  | inr past ↦
      let len : length e ≡ length s - i = ap length is ∙ length-drop i s in
      let place : length s - length e ≡ length s = omega (arith, len, past) in
      subst (IsCharBoundary s) (sym place) (IsCharBoundary-end s)
]

-- ---- white space

white_ascii : (b : ℕ) → is_white b ≡ true → b < 128
white_ascii b e = elim (cases_lt b 128) [
  | inl low ↦ low
  | inr high ↦
      let at : (n : ℕ) → n < 128 → (b == n) ≡ false = λ n small. ne_eqb b n (λ same. absurd (omega (arith, same))) in
      let none : is_white b ≡ false = rw (at 32 (lit< tt), at 9 (lit< tt), at 10 (lit< tt), at 11 (lit< tt), at 12 (lit< tt), at 13 (lit< tt)) refl in
      absurd (true≢false (sym e ∙ none))
]

-- the first white space of a text, with what stands around it
pub record WhiteAt (s : List ℕ) (i : ℕ) : Type 0 where
  pub inside : i < length s
  pub start : IsCharBoundary s i
  pub behind : IsUtf8 s → IsCharBoundary s (i + 1)
  pub parts : slice_split is_white s ≡ take i s ∷ slice_split is_white (drop (i + 1) s)

pub white_at : (s : List ℕ) (i : ℕ) → Some i ≡ position is_white s → WhiteAt s i
white_at s i e =
    let found = position-Some is_white s i 0 (sym e) in
    let low : get_or s i 0 < 128 = white_ascii (get_or s i 0) found.1 in
    let first : position_or_len is_white s ≡ i = position_or_len_is is_white s i 0 (omega (arith, found.0)) found.2 (λ _. found.1) in
    let within : position_or_len is_white s < length s = omega (arith, first, found.0) in
    record {
      inside = found.0;
      start = IsCharBoundary-before_ascii s i found.0 low;
      behind = λ u. IsCharBoundary-after_ascii s i u found.0 low;
      parts = slice_split_first is_white s 0 within ∙ rw first refl;
    }

pub no_white : (s : List ℕ) → None ≡ position is_white s → slice_split is_white s ≡ s ∷ []
no_white s e = elim (cases_lt (position_or_len is_white s) (length s)) [
  | inl inside ↦ absurd (some_none (position_or_len is_white s) (e ∙ at inside))
  | inr past ↦ no_cut is_white s (omega (arith, past, prefix_len-le-length (λ b. not (is_white b)) s))
]
  where
    at : position_or_len is_white s < length s → position is_white s ≡ Some (position_or_len is_white s)
    at inside = let yes : nat_lt (position_or_len is_white s) (length s) ≡ true = search (rules, inside) in rw yes refl

    some_none : (n : ℕ) → None ≡ Some n → ⊥
    some_none n same = cc
