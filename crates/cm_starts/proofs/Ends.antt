-- Runs and ends.
use Rattle.std.proofs.Common.{◌≡◌, ◌∙◌, Bool, List, [], ap, arith, cond, drop, false, get_or, length, nat_lt, not, refl, reverse, suc, sym, take, true, zero, ℕ, ◌&&◌, ◌-◌, ◌<◌, ◌==◌, ◌∷◌, ◌≤◌}
use Rattle.std.proofs.lemmas.List.{reverse-append}
use Rattle.std.proofs.Math.Seq.{take-suc}
use Rattle.markdown_grammar.specs.Fronts.{is_empty}
use Rattle.site_text.specs.Fronts.{run_len}
use Rattle.markdown_grammar.specs.Fences.{fence_at}
use Rattle.markdown_grammar.specs.Lines.{trim}
use Rattle.markdown_grammar.specs.Starts.{Start, fence_start, text_start}
use Rattle.cm_starts.specs.Marks.{mark_byte}
use Rattle.cm_starts.specs.Runs.{behind_run, is_fence_mark, is_spoilt}
use Rattle.cm_starts.specs.declared.list_marks.ListMark.{ListMark}
use Rattle.cm_starts.specs.declared.list_marks.ListMark.TheVariants.{FullStop, Hyphen, Parenthesis, Plus, Star}

pub mark_ascii : (mark : ListMark) → mark_byte mark < 128
mark_ascii Hyphen = omega arith
mark_ascii Plus = omega arith
mark_ascii Star = omega arith
mark_ascii FullStop = omega arith
mark_ascii Parenthesis = omega arith

-- ---- the end of a text, byte by byte

pub last_of : (t : List ℕ) (end : ℕ) → 0 < end → end ≤ length t → reverse (take end t) ≡ get_or t (end - 1) 0 ∷ reverse (take (end - 1) t)
last_of t zero some within = absurd (omega (arith, some))
last_of t (suc j) some within =
    let e : suc j - 1 ≡ j = omega arith in
    ap (λ (x : List ℕ). reverse x) (take-suc t j 0 (omega (arith, within))) ∙ reverse-append (take j t) (get_or t j 0 ∷ [])
    ∙ sym (ap (λ (k : ℕ). get_or t k 0 ∷ reverse (take k t)) e)

abbrev behind_case : (ℕ → Bool) → ℕ → List ℕ → Bool → List ℕ
behind_case p c cs b = drop (elim b as (λ x. ℕ) [ true ↦ suc (run_len p cs) | false ↦ 0 ]) (c ∷ cs)

-- one byte more of the run
pub end_more : (p : ℕ → Bool) (t : List ℕ) (end : ℕ) (whole : List ℕ) → 0 < end → end ≤ length t → p (get_or t (end - 1) 0) ≡ true
    → behind_run p (reverse (take end t)) ≡ whole → behind_run p (reverse (take (end - 1) t)) ≡ whole
end_more p t end whole some within h e =
    sym (ap (λ (x : List ℕ). behind_run p x) (last_of t end some within) ∙ ap (λ (b : Bool). behind_case p (get_or t (end - 1) 0) (reverse (take (end - 1) t)) b) h) ∙ e

-- the run ends
pub end_here : (p : ℕ → Bool) (t : List ℕ) (end : ℕ) (whole : List ℕ) → 0 < end → end ≤ length t → p (get_or t (end - 1) 0) ≡ false
    → behind_run p (reverse (take end t)) ≡ whole → whole ≡ reverse (take end t)
end_here p t end whole some within h e =
    sym e ∙ ap (λ (x : List ℕ). behind_run p x) (last_of t end some within) ∙ ap (λ (b : Bool). behind_case p (get_or t (end - 1) 0) (reverse (take (end - 1) t)) b) h
    ∙ sym (last_of t end some within)

-- nothing is left
pub end_none : (p : ℕ → Bool) (t : List ℕ) (end : ℕ) (whole : List ℕ) → end ≡ 0 → behind_run p (reverse (take end t)) ≡ whole → whole ≡ reverse (take end t)
end_none p t end whole none e = sym e ∙ ap (λ (n : ℕ). behind_run p (reverse (take n t))) none ∙ sym (ap (λ (n : ℕ). reverse (take n t)) none)

-- a run is the whole text exactly where nothing follows it
pub whole_run : (p : ℕ → Bool) (t : List ℕ) → (run_len p t == length t) ≡ is_empty (behind_run p t)
whole_run p [] = refl
whole_run p (c ∷ cs) = go (p c) (whole_run p cs) where
  more : (a b : ℕ) (w : Bool) → (a == b) ≡ w → (suc a == suc b) ≡ w
  more a b w h = grind (arith, h)

  go : (b : Bool) → (run_len p cs == length cs) ≡ is_empty (behind_run p cs) → ((elim b as (λ x. ℕ) [ true ↦ suc (run_len p cs) | false ↦ 0 ]) == suc (length cs)) ≡ is_empty (behind_case p c cs b)
  go true h = more (run_len p cs) (length cs) (is_empty (behind_run p cs)) h
  go false h = grind arith

-- ---- fences

chosen : (a b s : Bool) (x y : Start) → a ≡ true → b ≡ true → s ≡ false → x ≡ cond ((a && b) && not s) x y
chosen true true false x y e f g = refl
chosen true true true x y e f g = absurd cc
chosen true false s x y e f g = absurd cc
chosen false b s x y e f g = absurd cc

abbrev fence_with : ℕ → List ℕ → ℕ → ℕ → Start
fence_with i t m n = cond ((is_fence_mark m && nat_lt 2 n) && not (is_spoilt m (drop n t))) (fence_start i m n (trim (drop n t))) text_start

-- a text whose first byte is a mark of fences
pub fence_is : (i m n : ℕ) (t info u : List ℕ) → 0 < length t → m ≡ get_or t 0 0 → is_fence_mark m ≡ true → n ≡ run_len (λ d. d == m) t → 3 ≤ n → info ≡ drop n t
    → is_spoilt m info ≡ false → u ≡ trim info → fence_start i m n u ≡ fence_at i t
fence_is i m n [] info u some first mark run three cut fine ends = absurd (omega (arith, some))
fence_is i m n (c ∷ cs) info u some first mark run three cut fine ends =
    let t : List ℕ = c ∷ cs in
    let enough : nat_lt 2 n ≡ true = grind (arith, three) in
    ap (λ (x : List ℕ). fence_start i m n x) (ends ∙ ap (λ (x : List ℕ). trim x) cut)
    ∙ chosen (is_fence_mark m) (nat_lt 2 n) (is_spoilt m (drop n t)) (fence_start i m n (trim (drop n t))) text_start mark enough (sym (ap (λ (x : List ℕ). is_spoilt m x) cut) ∙ fine)
    ∙ ap (λ (k : ℕ). fence_with i t m k) run ∙ ap (λ (x : ℕ). fence_with i t x (run_len (λ d. d == x) t)) first
