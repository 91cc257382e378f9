-- Code spans: the run that ends them, and what is taken off at their ends.
use Rattle.std.proofs.Common.{◌≡◌, ◌∙◌, Bool, List, None, Option, Some, [], ap, arith, cond, drop, false, get_or, length, nat_lt, not, refl, reverse, subst, suc, sym, take, true, zero, ℕ, ◌&&◌, ◌+◌, ◌-◌, ◌<◌, ◌==◌, ◌∷◌, ◌≤◌, ◌||◌, IsUtf8}
use Rattle.std.specs.Str.{IsCharBoundary}
use Rattle.std.proofs.lemmas.List.{drop_more, get_or-drop, get_or-reverse, length-drop, length-reverse}
use Rattle.std.proofs.lemmas.Str.{IsCharBoundary-after_ascii, IsCharBoundary-before_ascii, IsUtf8-drop}
use Rattle.std.specs.Bool.{OnTrue}
use Rattle.cm_links.proofs.Boundaries.{encloses}
use Rattle.markdown_grammar.specs.CodeSpans.{before_run, spaced, span_text}
use Rattle.site_text.specs.Fronts.{first_byte, has_one, run_len}
use Rattle.markdown_grammar.specs.Readers.{plus}
use Rattle.cm_links.specs.Cuts.{Encloses, HasByte}
use Rattle.cm_spans.specs.Code.{is_blank, is_padded}
use Rattle.cm_spans.specs.Cuts.{Ends}
use Rattle.site_text.proofs.Runs.{run_within}
use Rattle.cm_spans.proofs.Runs.{ends_ascii, run_ends}

-- ---- the run that ends a code span

-- the last n of k bytes, or as many as there are, are backticks
pub record Closing (n current : ℕ) (t : List ℕ) (k : ℕ) : Type 0 where
  pub reaches : n ≤ current + k
  pub within : k ≤ length t
  pub marks : (j : ℕ) → j < k → k ≤ j + n → get_or t j 0 ≡ 96

abbrev run_case : ℕ → ℕ → List ℕ → Bool → Option ℕ
run_case n current cs b = elim b as (λ x. Option ℕ) [
  | true ↦ plus 1 (before_run n (suc current) cs)
  | false ↦ elim (n == current) as (λ x. Option ℕ) [ true ↦ Some 0 | false ↦ plus 1 (before_run n 0 cs) ]
]

same_is : (c d : ℕ) → (c == d) ≡ true → c ≡ d
same_is c d h = grind arith

closing_more : (n current c : ℕ) (cs : List ℕ) (o : Option ℕ) (k : ℕ) → c ≡ 96 → ((m : ℕ) → o ≡ Some m → Closing n (suc current) cs m) → plus 1 o ≡ Some k → Closing n current (c ∷ cs) k
closing_more n current c cs None k e rest h = absurd cc
closing_more n current c cs (Some m) k e rest h =
    let same : 1 + m ≡ k = cc in
    let inner = rest m refl in
    subst (Closing n current (c ∷ cs)) same (record {
      reaches = omega (arith, inner.reaches);
      within = omega (arith, inner.within);
      marks = marks inner;
    }) where
      marks : Closing n (suc current) cs m → (j : ℕ) → j < 1 + m → 1 + m ≤ j + n → get_or (c ∷ cs) j 0 ≡ 96
      marks inner zero lt le = e
      marks inner (suc j) lt le = inner.marks j (omega (arith, lt)) (omega (arith, le))

closing_past : (n current c : ℕ) (cs : List ℕ) (o : Option ℕ) (k : ℕ) → ((m : ℕ) → o ≡ Some m → Closing n 0 cs m) → plus 1 o ≡ Some k → Closing n current (c ∷ cs) k
closing_past n current c cs None k rest h = absurd cc
closing_past n current c cs (Some m) k rest h =
    let same : 1 + m ≡ k = cc in
    let inner = rest m refl in
    subst (Closing n current (c ∷ cs)) same (record {
      reaches = omega (arith, inner.reaches);
      within = omega (arith, inner.within);
      marks = marks inner;
    }) where
      marks : Closing n 0 cs m → (j : ℕ) → j < 1 + m → 1 + m ≤ j + n → get_or (c ∷ cs) j 0 ≡ 96
      marks inner zero lt le = absurd (omega (arith, le, inner.reaches))
      marks inner (suc j) lt le = inner.marks j (omega (arith, lt)) (omega (arith, le))

pub closing : (n current : ℕ) (t : List ℕ) (k : ℕ) → before_run n current t ≡ Some k → Closing n current t k
closing n current [] k h = go (n == current) refl h where
  go : (b : Bool) → (n == current) ≡ b → cond b (Some 0) None ≡ Some k → Closing n current [] k
  go false e f = absurd cc
  go true e f =
      let zeroth : 0 ≡ k = cc in
      let same = same_is n current e in
      subst (Closing n current []) zeroth (record { reaches = omega (arith, same); within = omega arith; marks = λ j lt le. absurd (omega (arith, lt)) })
closing n current (c ∷ cs) k h = go (c == 96) (n == current) refl refl h (closing n (suc current) cs) (closing n 0 cs) where
  go : (a b : Bool) → (c == 96) ≡ a → (n == current) ≡ b
      → elim a as (λ x. Option ℕ) [ true ↦ plus 1 (before_run n (suc current) cs) | false ↦ elim b as (λ x. Option ℕ) [ true ↦ Some 0 | false ↦ plus 1 (before_run n 0 cs) ] ] ≡ Some k
      → ((m : ℕ) → before_run n (suc current) cs ≡ Some m → Closing n (suc current) cs m) → ((m : ℕ) → before_run n 0 cs ≡ Some m → Closing n 0 cs m) → Closing n current (c ∷ cs) k
  go true b e f h more past = closing_more n current c cs (before_run n (suc current) cs) k (same_is c 96 e) more h
  go false true e f h more past =
      let zeroth : 0 ≡ k = cc in
      let same = same_is n current f in
      subst (Closing n current (c ∷ cs)) zeroth (record { reaches = omega (arith, same); within = omega arith; marks = λ j lt le. absurd (omega (arith, lt)) })
  go false false e f h more past = closing_past n current c cs (before_run n 0 cs) k past h

-- a step of the search
opened : (n current : ℕ) (t : List ℕ) (i : ℕ) → i < length t → before_run n current (drop i t) ≡ run_case n current (drop (i + 1) t) (get_or t i 0 == 96)
opened n current t i lt = ap (before_run n current) (drop_more t i 0 lt)

plus_plus : (i : ℕ) (o : Option ℕ) → plus (i + 1) o ≡ plus i (plus 1 o)
plus_plus i (Some k) = ap (λ (n : ℕ). Some n) (omega arith)
plus_plus i None = refl

pub mark_more : (n current : ℕ) (t : List ℕ) (i : ℕ) (whole : Option ℕ) → i < length t → get_or t i 0 ≡ 96 → plus i (before_run n current (drop i t)) ≡ whole
    → plus (i + 1) (before_run n (current + 1) (drop (i + 1) t)) ≡ whole
mark_more n current t i whole lt e h =
    let test : (get_or t i 0 == 96) ≡ true = grind (arith, e) in
    let next : current + 1 ≡ suc current = omega arith in
    plus_plus i (before_run n (current + 1) (drop (i + 1) t))
    ∙ ap (λ (k : ℕ). plus i (plus 1 (before_run n k (drop (i + 1) t)))) next
    ∙ sym (ap (plus i) (opened n current t i lt ∙ ap (run_case n current (drop (i + 1) t)) test)) ∙ h

pub other_more : (n current : ℕ) (t : List ℕ) (i : ℕ) (whole : Option ℕ) → i < length t → (get_or t i 0 ≡ 96 → ⊥) → (current ≡ n → ⊥) → plus i (before_run n current (drop i t)) ≡ whole
    → plus (i + 1) (before_run n 0 (drop (i + 1) t)) ≡ whole
other_more n current t i whole lt e f h =
    let test : (get_or t i 0 == 96) ≡ false = grind (arith, e) in
    let other : (n == current) ≡ false = (let g : n ≡ current → ⊥ = λ k. f (sym k) in grind (arith, g)) in
    plus_plus i (before_run n 0 (drop (i + 1) t))
    ∙ sym (ap (plus i) (opened n current t i lt ∙ ap (run_case n current (drop (i + 1) t)) test ∙ ap (λ (b : Bool). elim b as (λ x. Option ℕ) [ true ↦ Some 0 | false ↦ plus 1 (before_run n 0 (drop (i + 1) t)) ]) other)) ∙ h

plus_zero : (i : ℕ) → Some i ≡ plus i (Some 0)
plus_zero i = ap (λ (n : ℕ). Some n) (omega arith)

pub run_here : (n current : ℕ) (t : List ℕ) (i : ℕ) (whole : Option ℕ) → i < length t → (get_or t i 0 ≡ 96 → ⊥) → current ≡ n → plus i (before_run n current (drop i t)) ≡ whole → Some i ≡ whole
run_here n current t i whole lt e f h =
    let test : (get_or t i 0 == 96) ≡ false = grind (arith, e) in
    let same : (n == current) ≡ true = (let g : n ≡ current = sym f in grind (arith, g)) in
    plus_zero i ∙ sym (ap (plus i) (opened n current t i lt ∙ ap (run_case n current (drop (i + 1) t)) test ∙ ap (λ (b : Bool). elim b as (λ x. Option ℕ) [ true ↦ Some 0 | false ↦ plus 1 (before_run n 0 (drop (i + 1) t)) ]) same)) ∙ h

drop_past : (t : List ℕ) (n : ℕ) → length t ≤ n → drop n t ≡ []
drop_past [] zero h = refl
drop_past [] (suc n) h = refl
drop_past (c ∷ cs) zero h = absurd (omega (arith, h))
drop_past (c ∷ cs) (suc n) h = drop_past cs n (omega (arith, h))

pub run_at_end : (n current : ℕ) (t : List ℕ) (i : ℕ) (whole : Option ℕ) → length t ≤ i → current ≡ n → plus i (before_run n current (drop i t)) ≡ whole → Some i ≡ whole
run_at_end n current t i whole le f h =
    let same : (n == current) ≡ true = (let g : n ≡ current = sym f in grind (arith, g)) in
    plus_zero i ∙ sym (ap (λ (u : List ℕ). plus i (before_run n current u)) (drop_past t i le) ∙ ap (λ (b : Bool). plus i (cond b (Some 0) None)) same) ∙ h

pub no_run : (n current : ℕ) (t : List ℕ) (i : ℕ) (whole : Option ℕ) → length t ≤ i → (current ≡ n → ⊥) → plus i (before_run n current (drop i t)) ≡ whole → None ≡ whole
no_run n current t i whole le f h =
    let other : (n == current) ≡ false = (let g : n ≡ current → ⊥ = λ k. f (sym k) in grind (arith, g)) in
    sym (ap (λ (u : List ℕ). plus i (before_run n current u)) (drop_past t i le) ∙ ap (λ (b : Bool). plus i (cond b (Some 0) None)) other) ∙ h

-- ---- where a code span may be cut

pub record SpanCuts (t : List ℕ) (n k : ℕ) : Type 0 where
  pub front : IsCharBoundary t n
  pub order : n ≤ k
  pub back : IsCharBoundary t k
  pub ends : Ends t (n + k)

pub span_cuts : (t rest : List ℕ) (n k : ℕ) → IsUtf8 t → n ≡ run_len (λ c. c == 96) t → 0 < n → rest ≡ drop n t → Some k ≡ before_run n 0 rest → SpanCuts t n k
span_cuts t rest n k u e some d h =
    let c = closing n 0 rest k (sym h) in
    let size : length rest ≡ length t - n = ap (λ (x : List ℕ). length x) d ∙ length-drop n t in
    let at : (j : ℕ) → get_or t (n + j) 0 ≡ get_or rest j 0 = λ j. sym (get_or-drop n t j 0) ∙ ap (λ (x : List ℕ). get_or x j 0) (sym d) in
    let begun : n ≤ length t = omega (arith, e, run_within (λ c. c == 96) t) in
    let place : n + (k - n) ≡ k = omega (arith, c.reaches) in
    let first : get_or t k 0 ≡ 96 = ap (λ (j : ℕ). get_or t j 0) (sym place) ∙ at (k - n) ∙ c.marks (k - n) (omega (arith, some, c.reaches)) (omega (arith, c.reaches)) in
    let last : get_or t (n + (k - 1)) 0 ≡ 96 = at (k - 1) ∙ c.marks (k - 1) (omega (arith, some, c.reaches)) (omega (arith, some, c.reaches)) in
    let whole : n + (k - 1) + 1 ≡ n + k = omega (arith, some, c.reaches) in
    record {
      front = (run_ends 96 t n u e some (omega arith)).cut;
      order = omega (arith, c.reaches);
      back = IsCharBoundary-before_ascii t k (omega (arith, some, c.within, size, c.reaches, begun)) (omega (arith, first));
      ends = subst (Ends t) whole (ends_ascii t (n + (k - 1)) u (omega (arith, some, c.within, size, c.reaches, begun)) (omega (arith, last)));
    }

-- ---- spaces at the ends

length_spaced : (t : List ℕ) → length (spaced t) ≡ length t
length_spaced [] = refl
length_spaced (c ∷ cs) = ap (λ (n : ℕ). suc n) (length_spaced cs)

abbrev blanked : ℕ → ℕ
blanked c = cond (c == 10) 32 c

take_spaced : (n : ℕ) (t : List ℕ) → spaced (take n t) ≡ take n (spaced t)
take_spaced zero t = refl
take_spaced (suc n) [] = refl
take_spaced (suc n) (c ∷ cs) = ap (λ (u : List ℕ). blanked c ∷ u) (take_spaced n cs)

drop_spaced : (n : ℕ) (t : List ℕ) → spaced (drop n t) ≡ drop n (spaced t)
drop_spaced zero t = refl
drop_spaced (suc n) [] = refl
drop_spaced (suc n) (c ∷ cs) = drop_spaced n cs

get_spaced : (t : List ℕ) (i : ℕ) → i < length t → get_or (spaced t) i 0 ≡ blanked (get_or t i 0)
get_spaced [] i lt = absurd (omega (arith, lt))
get_spaced (c ∷ cs) zero lt = refl
get_spaced (c ∷ cs) (suc i) lt = get_spaced cs i (omega (arith, lt))

blank_test : (c : ℕ) → (blanked c == 32) ≡ is_blank c
blank_test c = go (c == 10) refl where
  go : (b : Bool) → (c == 10) ≡ b → (cond b 32 c == 32) ≡ ((c == 32) || b)
  go true e = or_true (c == 32) where
    or_true : (b : Bool) → true ≡ (b || true)
    or_true true = refl
    or_true false = refl
  go false e = or_false (c == 32) where
    or_false : (b : Bool) → b ≡ (b || false)
    or_false true = refl
    or_false false = refl

has_other_spaced : (t : List ℕ) → has_one (λ c. not (c == 32)) (spaced t) ≡ has_one (λ c. not (is_blank c)) t
has_other_spaced [] = refl
has_other_spaced (c ∷ cs) =
    ap (λ (b : Bool). elim (not b) as (λ x. Bool) [ true ↦ true | false ↦ has_one (λ c. not (c == 32)) (spaced cs) ]) (blank_test c)
    ∙ ap (λ (x : Bool). elim (not (is_blank c)) as (λ v. Bool) [ true ↦ true | false ↦ x ]) (has_other_spaced cs)

first_is : (t : List ℕ) → 0 < length t → first_byte t ≡ get_or t 0 0
first_is [] lt = absurd (omega (arith, lt))
first_is (c ∷ cs) lt = refl

first_spaced : (t : List ℕ) → 0 < length t → (first_byte (spaced t) == 32) ≡ is_blank (get_or t 0 0)
first_spaced [] lt = absurd (omega (arith, lt))
first_spaced (c ∷ cs) lt = blank_test c

last_spaced : (t : List ℕ) → 0 < length t → (first_byte (reverse (spaced t)) == 32) ≡ is_blank (get_or t (length t - 1) 0)
last_spaced t lt =
    let size = length_spaced t in
    let some : 0 < length (reverse (spaced t)) = omega (arith, length-reverse (spaced t), size, lt) in
    let place : length (spaced t) - 1 - 0 ≡ length t - 1 = omega (arith, size) in
    ap (λ (c : ℕ). c == 32) (first_is (reverse (spaced t)) some ∙ get_or-reverse (spaced t) 0 0 (omega (arith, size, lt)) ∙ ap (λ (k : ℕ). get_or (spaced t) k 0) place ∙ get_spaced t (length t - 1) (omega (arith, lt)))
    ∙ blank_test (get_or t (length t - 1) 0)

-- all of three bytes, or two
short_blank : (t : List ℕ) → length t ≤ 2 → ((is_blank (get_or t 0 0) && is_blank (get_or t (length t - 1) 0)) && has_one (λ c. not (is_blank c)) t) ≡ false
short_blank [] h = go (is_blank 0) where
  go : (b : Bool) → ((b && b) && false) ≡ false
  go true = refl
  go false = refl
short_blank (c ∷ []) h = go (is_blank c) where
  go : (b : Bool) → ((b && b) && elim (not b) as (λ x. Bool) [ true ↦ true | false ↦ false ]) ≡ false
  go true = refl
  go false = refl
short_blank (c ∷ d ∷ []) h = go (is_blank c) (is_blank d) where
  go : (a b : Bool) → ((a && b) && elim (not a) as (λ x. Bool) [ true ↦ true | false ↦ elim (not b) as (λ x. Bool) [ true ↦ true | false ↦ false ] ]) ≡ false
  go true true = refl
  go true false = refl
  go false b = refl
short_blank (c ∷ d ∷ e ∷ fs) h = absurd (omega (arith, h))

tests_same : (t : List ℕ) → 0 < length t → (((first_byte (spaced t) == 32) && (first_byte (reverse (spaced t)) == 32)) && has_one (λ c. not (c == 32)) (spaced t)) ≡ ((is_blank (get_or t 0 0) && is_blank (get_or t (length t - 1) 0)) && has_one (λ c. not (is_blank c)) t)
tests_same t lt =
    ap (λ (b : Bool). (b && (first_byte (reverse (spaced t)) == 32)) && has_one (λ c. not (c == 32)) (spaced t)) (first_spaced t lt)
    ∙ ap (λ (b : Bool). (is_blank (get_or t 0 0) && b) && has_one (λ c. not (c == 32)) (spaced t)) (last_spaced t lt)
    ∙ ap (λ (b : Bool). (is_blank (get_or t 0 0) && is_blank (get_or t (length t - 1) 0)) && b) (has_other_spaced t)

padded_same : (t : List ℕ) → (((first_byte (spaced t) == 32) && (first_byte (reverse (spaced t)) == 32)) && has_one (λ c. not (c == 32)) (spaced t)) ≡ is_padded t
padded_same [] = refl
padded_same (c ∷ cs) = tests_same (c ∷ cs) (omega arith) ∙ go (nat_lt 2 (suc (length cs))) refl where
  rest : Bool
  rest = (is_blank c && is_blank (get_or (c ∷ cs) (suc (length cs) - 1) 0)) && has_one (λ c. not (is_blank c)) (c ∷ cs)

  go : (b : Bool) → nat_lt 2 (suc (length cs)) ≡ b → ((is_blank c && is_blank (get_or (c ∷ cs) (suc (length cs) - 1) 0)) && has_one (λ c. not (is_blank c)) (c ∷ cs)) ≡ ((b && (is_blank c && is_blank (get_or (c ∷ cs) (suc (length cs) - 1) 0))) && has_one (λ c. not (is_blank c)) (c ∷ cs))
  go true e = refl
  go false e = short_blank (c ∷ cs) (grind (arith, e))

pub padded_text : (t u : List ℕ) → is_padded t ≡ true → u ≡ take (length t - 2) (drop 1 t) → spaced u ≡ span_text t
padded_text t u h e =
    ap spaced e ∙ take_spaced (length t - 2) (drop 1 t) ∙ ap (take (length t - 2)) (drop_spaced 1 t)
    ∙ sym (ap (λ (b : Bool). cond b (take (length (spaced t) - 2) (drop 1 (spaced t))) (spaced t)) (padded_same t ∙ h) ∙ ap (λ (n : ℕ). take (n - 2) (drop 1 (spaced t))) (length_spaced t))

pub plain_text : (t : List ℕ) → is_padded t ≡ false → spaced t ≡ span_text t
plain_text t h = sym (ap (λ (b : Bool). cond b (take (length (spaced t) - 2) (drop 1 (spaced t))) (spaced t)) (padded_same t ∙ h))

pub cut_text : (t rest u : List ℕ) (n : ℕ) → rest ≡ drop 1 t → u ≡ take (n - 0) rest → u ≡ take n (drop 1 t)
cut_text t rest u n e f = f ∙ (let same : n - 0 ≡ n = omega arith in ap (λ (k : ℕ). take k rest) same) ∙ ap (take n) e

blank_ascii : (c : ℕ) → is_blank c ≡ true → c < 128
blank_ascii c h = grind arith

padded_cuts : (t : List ℕ) → IsUtf8 t → 3 ≤ length t → is_blank (get_or t 0 0) ≡ true → is_blank (get_or t (length t - 1) 0) ≡ true → Encloses t (length t - 2)
padded_cuts t u size h k =
    let start = IsCharBoundary-after_ascii t 0 u (omega (arith, size)) (blank_ascii (get_or t 0 0) h) in
    let one : 0 + 1 ≡ 1 = omega arith in
    let last : 1 + (length t - 2) ≡ length t - 1 = omega (arith, size) in
    let byte : HasByte (get_or t (length t - 1) 0) (drop 1 t) (length t - 2) = record {
      within = omega (arith, length-drop 1 t, size);
      byte = get_or-drop 1 t (length t - 2) 0 ∙ ap (λ (j : ℕ). get_or t j 0) last;
    } in
    let start1 : IsCharBoundary t 1 = subst (IsCharBoundary t) one start in
    encloses t (length t - 2) (get_or t (length t - 1) 0) (IsUtf8-drop t 1 u start1) start1 byte (blank_ascii (get_or t (length t - 1) 0) k)

pub padded_on : (b : Bool) (t : List ℕ) → IsUtf8 t → 3 ≤ length t → is_blank (get_or t 0 0) ≡ true → is_blank (get_or t (length t - 1) 0) ≡ true → OnTrue b (Encloses t (length t - 2))
padded_on true t u size h k = padded_cuts t u size h k
padded_on false t u size h k = tt
