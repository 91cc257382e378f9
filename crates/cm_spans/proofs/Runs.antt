-- Runs and single bytes, and where a text may be cut behind them.
use Rattle.std.proofs.Common.{◌≡◌, ◌∙◌, Bool, List, [], ap, arith, codes, drop, false, get_or, length, nat_lt, not, refl, subst, suc, sym, true, zero, ℕ, ◌+◌, ◌-◌, ◌<◌, ◌==◌, ◌∷◌, ◌≤◌, ◌||◌, IsUtf8, ◌&&◌}
use Rattle.std.specs.List.{list_all}
use Rattle.std.specs.Str.{IsCharBoundary}
use Rattle.std.proofs.lemmas.Str.{IsCharBoundary-before_ascii, IsCharBoundary-after_ascii, IsCharBoundary-end}
use Rattle.std.proofs.lemmas.List.{get_or_past}
use Rattle.site_text.specs.Bytes.{is_punct, is_special}
use Rattle.site_text.specs.Fronts.{first_byte, has_one, run_len}
use Rattle.site_text.proofs.Runs.{run_byte, run_stop, run_within}
use Rattle.cm_links.specs.Resolving.{HasEnd}
use Rattle.cm_starts.proofs.Words.{first_at}
use Rattle.markdown_grammar.specs.Flanking.{char_after, char_before}
use Rattle.markdown_grammar.specs.Pieces.{Piece, run_at}
use Rattle.cm_spans.specs.Cuts.{Ends}
use Rattle.cm_spans.specs.Pieces.{marks_at, run_of, taken_of}
use Rattle.cm_spans.specs.declared.flanking.Marks.{Marks}
use Rattle.cm_spans.specs.declared.spans.Span.TheVariants.{Run}

-- ---- single bytes

pub byte_within : (t : List ℕ) (k c : ℕ) → first_byte (drop k t) ≡ c → 0 < c → k < length t
byte_within [] zero c e some = absurd (omega (arith, e, some))
byte_within (d ∷ ds) zero c e some = omega arith
byte_within [] (suc k) c e some = absurd (omega (arith, e, some))
byte_within (d ∷ ds) (suc k) c e some = omega (arith, byte_within ds k c e some)

pub byte_past : (t : List ℕ) (k : ℕ) → length t ≤ k → 0 ≡ first_byte (drop k t)
byte_past t k h = sym (first_at k t ∙ get_or_past t k 0 h)

pub ends_ascii : (t : List ℕ) (k : ℕ) → IsUtf8 t → k < length t → get_or t k 0 < 128 → Ends t (k + 1)
ends_ascii t k u lt small = record { some = omega arith; cut = IsCharBoundary-after_ascii t k u lt small }

pub byte_ends : (t : List ℕ) (k c : ℕ) → IsUtf8 t → first_byte (drop k t) ≡ c → 0 < c → c < 128 → Ends t (k + 1)
byte_ends t k c u e some small = ends_ascii t k u (byte_within t k c e some) (omega (arith, first_at k t, e, small))

pub first_ends : (t : List ℕ) (c : ℕ) → IsUtf8 t → first_byte t ≡ c → 0 < c → c < 128 → Ends t 1
first_ends t c u e some small = byte_ends t 0 c u e some small

-- ---- runs

pub run_some : (d : ℕ) (t : List ℕ) → first_byte t ≡ d → 0 < d → 0 < run_len (λ c. c == d) t
run_some d [] e some = absurd (omega (arith, e, some))
run_some d (c ∷ cs) e some = go (c == d) (let same : (c == d) ≡ true = grind (arith, e) in same) where
  go : (b : Bool) → b ≡ true → 0 < elim b as (λ x. ℕ) [ true ↦ suc (run_len (λ c. c == d) cs) | false ↦ 0 ]
  go true h = omega arith
  go false h = absurd cc

pub same_is : (c d : ℕ) → (c == d) ≡ true → c ≡ d
same_is c d h = grind arith

pub run_ends : (d : ℕ) (t : List ℕ) (n : ℕ) → IsUtf8 t → n ≡ run_len (λ c. c == d) t → 0 < n → d < 128 → Ends t n
run_ends d t n u e some small =
    let last : get_or t (n - 1) 0 ≡ d = same_is (get_or t (n - 1) 0) d (run_byte (λ c. c == d) t (n - 1) (omega (arith, e, some))) in
    let all : n - 1 + 1 ≡ n = omega (arith, some) in
    subst (Ends t) all (ends_ascii t (n - 1) u (omega (arith, e, some, run_within (λ c. c == d) t)) (omega (arith, last, small)))

-- ---- text up to a byte that may be something else

pub among_ascii : (w : List ℕ) (c : ℕ) → list_all (λ d. nat_lt d 128) w ≡ true → has_one (λ d. d == c) w ≡ true → c < 128
among_ascii [] c h k = absurd cc
among_ascii (d ∷ ds) c h k = go (nat_lt d 128) (d == c) refl refl h k (among_ascii ds c) where
  go : (a b : Bool) → nat_lt d 128 ≡ a → (d == c) ≡ b → (a && list_all (λ d. nat_lt d 128) ds) ≡ true → elim b as (λ x. Bool) [ true ↦ true | false ↦ has_one (λ d. d == c) ds ] ≡ true
      → (list_all (λ d. nat_lt d 128) ds ≡ true → has_one (λ d. d == c) ds ≡ true → c < 128) → c < 128
  go false b e f h k rest = absurd cc
  go true true e f h k rest = let same : d ≡ c = grind (arith, f) in let lt : d < 128 = grind (arith, e) in omega (arith, same, lt)
  go true false e f h k rest = rest h k

pub not_false : (b : Bool) → not b ≡ false → b ≡ true
not_false true h = refl
not_false false h = absurd cc

pub textual_ends : (t : List ℕ) (m : ℕ) → 0 < length t → m ≡ run_len (λ c. not (is_special c)) (drop 1 t) → Ends t (1 + m)
textual_ends [] m some e = absurd (omega (arith, some))
textual_ends (c ∷ cs) m some e = record { some = omega arith; cut = go (nat_lt m (length cs)) refl } where
  go : (b : Bool) → nat_lt m (length cs) ≡ b → IsCharBoundary (c ∷ cs) (1 + m)
  go true h =
      let lt : m < length cs = grind (arith, h) in
      let stop : not (is_special (get_or cs m 0)) ≡ false = subst (λ (k : ℕ). not (is_special (get_or cs k 0)) ≡ false) (sym e) (run_stop (λ c. not (is_special c)) cs (omega (arith, e, lt))) in
      let small : get_or cs m 0 < 128 = among_ascii (codes "\\&`<*_![] \n") (get_or cs m 0) refl (not_false (is_special (get_or cs m 0)) stop) in
      let same : suc m ≡ 1 + m = omega arith in
      subst (IsCharBoundary (c ∷ cs)) same (IsCharBoundary-before_ascii (c ∷ cs) (suc m) (omega (arith, lt)) small)
  go false h =
      let le : length cs ≤ m = grind (arith, h) in
      let same : suc (length cs) ≡ 1 + m = omega (arith, le, e, run_within (λ c. not (is_special c)) cs) in
      subst (IsCharBoundary (c ∷ cs)) same (IsCharBoundary-end (c ∷ cs))

pub punct_some : (c : ℕ) → is_punct c ≡ true → 0 < c
punct_some c h = grind arith

pub punct_ascii : (c : ℕ) → is_punct c ≡ true → c < 128
punct_ascii c h = grind arith

-- ---- runs of spaces and marks

blank_first : (c : ℕ) → ((c == 32) || (c == 10)) ≡ true → (c ≡ 10 → ⊥) → c ≡ 32
blank_first c h k = grind (arith, h, k)

pub space_ends : (t : List ℕ) (n c : ℕ) → IsUtf8 t → ((first_byte t == 32) || (first_byte t == 10)) ≡ true → n ≡ run_len (λ c. c == 32) t → c ≡ first_byte (drop n t) → (c ≡ 10 → ⊥) → Ends t n
space_ends t zero c u h e d k =
    let first : first_byte t ≡ 32 = blank_first (first_byte t) h (λ f. k (d ∙ f)) in
    absurd (omega (arith, e, run_some 32 t first (omega arith)))
space_ends t (suc n) c u h e d k = run_ends 32 t (suc n) u e (omega arith) (omega arith)

pub marks_end : (t rest : List ℕ) (mark n : ℕ) → IsUtf8 rest → rest ≡ t → first_byte t ≡ mark → 0 < mark → mark < 128 → n ≡ run_len (λ c. c == mark) rest → Ends t n
marks_end t rest mark n u d first some small e =
    let start : first_byte rest ≡ mark = ap first_byte d ∙ first in
    subst (λ (x : List ℕ). Ends x n) d (run_ends mark rest n u e (omega (arith, e, run_some mark rest start some)) small)

pub marks_are : (m : Marks) (mark n before after : ℕ) (done t rest behind : List ℕ) → run_of m ≡ run_at mark n before after → n ≡ run_len (λ d. d == mark) rest → rest ≡ t → before ≡ char_before done → after ≡ char_after behind → behind ≡ drop n rest
    → taken_of (record { span = Run m; len = n }) t ≡ marks_at mark done t
marks_are m mark n before after done t rest behind h e d b a f =
    let size : n ≡ run_len (λ d. d == mark) t = e ∙ ap (run_len (λ d. d == mark)) d in
    let next : after ≡ char_after (drop n t) = a ∙ ap char_after (f ∙ ap (drop n) d) in
    ap (λ (p : Piece). (p, n)) (h ∙ ap (λ (x : ℕ). run_at mark n x after) b ∙ ap (λ (x : ℕ). run_at mark n (char_before done) x) next)
    ∙ ap (λ (k : ℕ). (run_at mark k (char_before done) (char_after (drop k t)), k)) size

-- ---- references

pub reference_ends : (t : List ℕ) (end : ℕ) → IsUtf8 t → HasEnd 0 t (end - 0) → Ends t end
reference_ends t end u h =
    let place : end - 0 - 0 - 1 ≡ end - 1 = omega arith in
    let last : get_or t (end - 1) 0 ≡ 59 = ap (λ (k : ℕ). get_or t k 0) (sym place) ∙ h.closed in
    let all : end - 1 + 1 ≡ end = omega (arith, h.behind) in
    subst (Ends t) all (ends_ascii t (end - 1) u (omega (arith, h.behind, h.within)) (omega (arith, last)))
