-- Runs of bytes at the front of a text, and where it may be cut behind them.
use Rattle.std.proofs.Common.{◌≡◌, ◌∙◌, ◌⊎◌, inl, inr, Bool, List, [], ap, arith, cond, drop, false, get_or, length, refl, suc, sym, true, zero, ℕ, ◌+◌, ◌<◌, ◌∷◌, ◌≤◌, IsUtf8, subst}
use Rattle.std.specs.List.{prefix_len}
use Rattle.std.specs.Str.{IsCharBoundary}
use Rattle.std.proofs.lemmas.Bool.{cases_lt}
use Rattle.std.proofs.lemmas.List.{drop_more}
use Rattle.std.proofs.lemmas.Str.{IsCharBoundary-after_ascii, IsCharBoundary-before_ascii, IsCharBoundary-end, IsCharBoundary-start}
use Rattle.site_text.specs.Fronts.{run_len}

pub run_prefix : (p : ℕ → Bool) (t : List ℕ) → prefix_len p t ≡ run_len p t
run_prefix p [] = refl
run_prefix p (c ∷ cs) = go (p c) (run_prefix p cs) where
  go : (b : Bool) → prefix_len p cs ≡ run_len p cs → cond b (1 + prefix_len p cs) 0 ≡ elim b as (λ x. ℕ) [ true ↦ suc (run_len p cs) | false ↦ 0 ]
  go true h = omega (arith, h)
  go false h = refl

pub run_within : (p : ℕ → Bool) (t : List ℕ) → run_len p t ≤ length t
run_within p [] = omega arith
run_within p (c ∷ cs) = go (p c) (run_within p cs) where
  go : (b : Bool) → run_len p cs ≤ length cs → elim b as (λ x. ℕ) [ true ↦ suc (run_len p cs) | false ↦ 0 ] ≤ suc (length cs)
  go true h = omega (arith, h)
  go false h = omega arith

-- the bytes of a run pass
pub run_byte : (p : ℕ → Bool) (t : List ℕ) (j : ℕ) → j < run_len p t → p (get_or t j 0) ≡ true
run_byte p [] j lt = absurd (omega (arith, lt))
run_byte p (c ∷ cs) zero lt = go (p c) refl lt where
  go : (b : Bool) → p c ≡ b → 0 < elim b as (λ x. ℕ) [ true ↦ suc (run_len p cs) | false ↦ 0 ] → p c ≡ true
  go true e h = e
  go false e h = absurd (omega (arith, h))
run_byte p (c ∷ cs) (suc j) lt = go (p c) lt (run_byte p cs j) where
  go : (b : Bool) → suc j < elim b as (λ x. ℕ) [ true ↦ suc (run_len p cs) | false ↦ 0 ] → (j < run_len p cs → p (get_or cs j 0) ≡ true) → p (get_or cs j 0) ≡ true
  go true h k = k (omega (arith, h))
  go false h k = absurd (omega (arith, h))

-- and the byte behind it does not
pub run_stop : (p : ℕ → Bool) (t : List ℕ) → run_len p t < length t → p (get_or t (run_len p t) 0) ≡ false
run_stop p [] lt = absurd (omega (arith, lt))
run_stop p (c ∷ cs) lt = go (p c) refl lt (run_stop p cs) where
  size : Bool → ℕ
  size b = elim b as (λ x. ℕ) [ true ↦ suc (run_len p cs) | false ↦ 0 ]

  go : (b : Bool) → p c ≡ b → size b < suc (length cs) → (run_len p cs < length cs → p (get_or cs (run_len p cs) 0) ≡ false) → p (get_or (c ∷ cs) (size b) 0) ≡ false
  go true e h k = k (omega (arith, h))
  go false e h k = e

pub run_stops : (p : ℕ → Bool) (t : List ℕ) (n : ℕ) → n ≡ run_len p t → n < length t → p (get_or t n 0) ≡ false
run_stops p t n is lt = ap (λ (k : ℕ). p (get_or t k 0)) is ∙ run_stop p t (omega (arith, is, lt))

-- one byte more of a run
pub run_more : (p : ℕ → Bool) (text : List ℕ) (i n : ℕ) → i < length text → p (get_or text i 0) ≡ true → i + run_len p (drop i text) ≡ n → i + 1 + run_len p (drop (i + 1) text) ≡ n
run_more p text i n lt h e =
    omega (arith, ap (run_len p) (drop_more text i 0 lt), ap (λ (b : Bool). elim b as (λ x. ℕ) [ true ↦ suc (run_len p (drop (i + 1) text)) | false ↦ 0 ]) h, e)

pub boundary_byte : (text : List ℕ) (i c : ℕ) → IsUtf8 text → i < length text → get_or text i 0 ≡ c → c < 128 → IsCharBoundary text (i + 1)
boundary_byte text i c u lt e small = IsCharBoundary-after_ascii text i u lt (omega (arith, e, small))

-- what passes otherwise than all beyond ASCII is ASCII
below : (p : ℕ → Bool) (b : Bool) (c : ℕ) → ((d : ℕ) → 128 ≤ d → p d ≡ b) → (p c ≡ b → ⊥) → c < 128
below p b c beyond differs = go (cases_lt c 128) where
  go : (c < 128) ⊎ (128 ≤ c) → c < 128
  go (inl h) = h
  go (inr h) = absurd (differs (beyond c h))

behind_ascii : (t : List ℕ) (n : ℕ) → IsUtf8 t → n < length t → ((m : ℕ) → n ≡ m + 1 → get_or t m 0 < 128) → IsCharBoundary t n
behind_ascii t zero u lt h = IsCharBoundary-start t u
behind_ascii t (suc m) u lt h =
    let next : m + 1 ≡ suc m = omega arith in
    subst (IsCharBoundary t) next (IsCharBoundary-after_ascii t m u (omega (arith, lt)) (h m (sym next)))

-- where beyond ASCII all bytes pass, or none, a run is of whole characters
pub run_cut : (p : ℕ → Bool) (b : Bool) (t : List ℕ) (n : ℕ) → ((d : ℕ) → 128 ≤ d → p d ≡ b) → IsUtf8 t → n ≡ run_len p t → IsCharBoundary t n
run_cut p b t n beyond u is = go (cases_lt n (length t)) where
  stop : n < length t → p (get_or t n 0) ≡ false
  stop lt = run_stops p t n is lt

  passed : (m : ℕ) → n ≡ m + 1 → p (get_or t m 0) ≡ true
  passed m e = run_byte p t m (omega (arith, is, e))

  inside : (w : Bool) → b ≡ w → n < length t → IsCharBoundary t n
  inside true e lt = IsCharBoundary-before_ascii t n lt (below p b (get_or t n 0) beyond (λ h. absurd (let s = stop lt in cc)))
  inside false e lt = behind_ascii t n u lt (λ m k. below p b (get_or t m 0) beyond (λ h. absurd (let s = passed m k in cc)))

  go : (n < length t) ⊎ (length t ≤ n) → IsCharBoundary t n
  go (inl lt) = inside b refl lt
  go (inr le) =
      let whole : length t ≡ n = omega (arith, is, le, run_within p t) in
      subst (IsCharBoundary t) whole (IsCharBoundary-end t)
