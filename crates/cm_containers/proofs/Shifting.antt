-- How far white space is taken, and what is left.
use Rattle.std.proofs.Common.{◌≡◌, ◌∙◌, Bool, List, [], ap, arith, drop, false, min, refl, replicate, suc, true, zero, ℕ, ◌++◌, ◌+◌, ◌-◌, ◌<◌, ◌==◌, ◌∷◌, ◌||◌}
use Rattle.markdown_grammar.specs.Columns.{Line, indent, lazy_line, line_text, own_line, shifted, tab_width}
use Rattle.site_text.specs.Bytes.{is_space}
use Rattle.site_text.specs.Fronts.{run_len}
use Rattle.markdown_grammar.specs.Lines.{trim_front}

abbrev pub line_column : Line → ℕ
line_column (own_line col t) = col
line_column (lazy_line t) = 0

abbrev shifted_cases : ℕ → ℕ → ℕ → List ℕ → Bool → Bool → Line
shifted_cases k col c cs s t = elim s as (λ x. Line) [
  | true ↦ shifted k (suc col) cs
  | false ↦ elim t as (λ x. Line) [ true ↦ shifted k (suc col) (replicate (tab_width col - 1) 32 ++ cs) | false ↦ own_line col (c ∷ cs) ]
]

abbrev indent_cases : ℕ → List ℕ → Bool → Bool → ℕ
indent_cases col cs s t = elim s as (λ x. ℕ) [
  | true ↦ suc (indent (suc col) cs)
  | false ↦ elim t as (λ x. ℕ) [ true ↦ tab_width col + indent (col + tab_width col) cs | false ↦ 0 ]
]

abbrev trim_cases : ℕ → List ℕ → Bool → Bool → List ℕ
trim_cases c cs s t = drop (elim (s || t) as (λ x. ℕ) [ true ↦ suc (run_len is_space cs) | false ↦ 0 ]) (c ∷ cs)

indent_spaces : (n col : ℕ) (t : List ℕ) → indent col (replicate n 32 ++ t) ≡ n + indent (col + n) t
indent_spaces zero col t = let e : col ≡ col + 0 = omega arith in omega (arith, ap (λ (c : ℕ). indent c t) e)
indent_spaces (suc n) col t =
    let e : suc col + n ≡ col + suc n = omega arith in
    omega (arith, indent_spaces n (suc col) t, ap (λ (c : ℕ). indent c t) e)

trim_spaces : (n : ℕ) (t : List ℕ) → trim_front (replicate n 32 ++ t) ≡ trim_front t
trim_spaces zero t = refl
trim_spaces (suc n) t = trim_spaces n t

-- a tab counts as its spaces
indent_tab : (col : ℕ) (cs : List ℕ) → suc (indent (suc col) (replicate (tab_width col - 1) 32 ++ cs)) ≡ tab_width col + indent (col + tab_width col) cs
indent_tab col cs =
    let w : suc (tab_width col - 1) ≡ tab_width col = omega arith in
    let e : suc col + (tab_width col - 1) ≡ col + tab_width col = omega arith in
    omega (arith, indent_spaces (tab_width col - 1) (suc col) cs, ap (λ (c : ℕ). indent c cs) e, w)

-- as many columns are taken as are asked for, where there are so many
pub shifted_column : (k col : ℕ) (t : List ℕ) → line_column (shifted k col t) ≡ col + min k (indent col t)
shifted_column zero col t = omega arith
shifted_column (suc k) col [] = omega arith
shifted_column (suc k) col (c ∷ cs) = go (c == 32) (c == 9) (shifted_column k (suc col) cs) (shifted_column k (suc col) (replicate (tab_width col - 1) 32 ++ cs)) where
  go : (s t : Bool) → line_column (shifted k (suc col) cs) ≡ suc col + min k (indent (suc col) cs)
      → line_column (shifted k (suc col) (replicate (tab_width col - 1) 32 ++ cs)) ≡ suc col + min k (indent (suc col) (replicate (tab_width col - 1) 32 ++ cs))
      → line_column (shifted_cases k col c cs s t) ≡ col + min (suc k) (indent_cases col cs s t)
  go true t h i = omega (arith, h)
  go false true h i = omega (arith, i, indent_tab col cs)
  go false false h i = omega arith

-- where there are fewer, all white space is taken
pub shifted_text : (k col : ℕ) (t : List ℕ) → indent col t < k → line_text (shifted k col t) ≡ trim_front t
shifted_text zero col t lt = absurd (omega (arith, lt))
shifted_text (suc k) col [] lt = refl
shifted_text (suc k) col (c ∷ cs) lt = go (c == 32) (c == 9) (shifted_text k (suc col) cs) (shifted_text k (suc col) (replicate (tab_width col - 1) 32 ++ cs)) lt where
  go : (s t : Bool) → (indent (suc col) cs < k → line_text (shifted k (suc col) cs) ≡ trim_front cs)
      → (indent (suc col) (replicate (tab_width col - 1) 32 ++ cs) < k → line_text (shifted k (suc col) (replicate (tab_width col - 1) 32 ++ cs)) ≡ trim_front (replicate (tab_width col - 1) 32 ++ cs))
      → indent_cases col cs s t < suc k → line_text (shifted_cases k col c cs s t) ≡ trim_cases c cs s t
  go true t h i less = h (omega (arith, less))
  go false true h i less = i (omega (arith, less, indent_tab col cs)) ∙ trim_spaces (tab_width col - 1) cs
  go false false h i less = refl
