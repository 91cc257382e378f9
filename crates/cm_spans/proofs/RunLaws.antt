-- Runs of backticks that a text lacks: the rest of it lacks them too, and one byte more in front adds at most the run that it ends.
use Rattle.std.proofs.Common.{◌≡◌, ◌∙◌, Bool, List, None, Option, Some, [], ap, arith, cond, drop, false, get_or, length, min, nat_lt, refl, subst, suc, sym, true, zero, ℕ, ◌+◌, ◌-◌, ◌<◌, ◌==◌, ◌∷◌, ◌≤◌}
use Rattle.std.proofs.Math.Seq.{drop-length}
use Rattle.std.proofs.lemmas.List.{drop-drop, drop_more, length-drop}
use Rattle.markdown_grammar.specs.CodeSpans.{before_run}
use Rattle.site_text.specs.Fronts.{run_len}
use Rattle.markdown_grammar.specs.Readers.{plus}
use Rattle.cm_spans.specs.Missing.{LacksNext, LacksRuns}
use Rattle.site_text.proofs.Runs.{run_within}

abbrev pub marks : List ℕ → ℕ
marks t = run_len (λ c. c == 96) t

plus_none : (o : Option ℕ) → plus 1 o ≡ None → o ≡ None
plus_none None h = refl
plus_none (Some k) h = absurd cc

found_none : (o : Option ℕ) → o ≡ Some 0 → o ≡ None → ⊥
found_none o g h = cc

differs : (n k : ℕ) → (n ≡ k → ⊥) → (n == k) ≡ false
differs n k ne = grind (arith, ne)

-- ---- a step of the search

abbrev step : ℕ → ℕ → List ℕ → Bool → Bool → Option ℕ
step n current cs a b = elim a as (λ x. Option ℕ) [
  | true ↦ plus 1 (before_run n (suc current) cs)
  | false ↦ elim b as (λ x. Option ℕ) [ true ↦ Some 0 | false ↦ plus 1 (before_run n 0 cs) ]
]

mark_step : (n j c : ℕ) (cs : List ℕ) → (c == 96) ≡ true → before_run n j (c ∷ cs) ≡ plus 1 (before_run n (suc j) cs)
mark_step n j c cs e = ap (λ (a : Bool). step n j cs a (n == j)) e

other_step : (n j c : ℕ) (cs : List ℕ) → (c == 96) ≡ false → (n ≡ j → ⊥) → before_run n j (c ∷ cs) ≡ plus 1 (before_run n 0 cs)
other_step n j c cs e ne = ap (λ (a : Bool). step n j cs a (n == j)) e ∙ ap (λ (b : Bool). step n j cs false b) (differs n j ne)

no_more : (n j : ℕ) → (n ≡ j → ⊥) → before_run n j [] ≡ None
no_more n j ne = ap (λ (b : Bool). cond b (Some 0) None) (differs n j ne)

-- ---- the search behind the run at the front

abbrev size : List ℕ → Bool → ℕ
size cs a = elim a as (λ x. ℕ) [ true ↦ suc (marks cs) | false ↦ 0 ]

not_zero : (n : ℕ) → 0 < n → n ≡ 0 → ⊥
not_zero n some e = omega (arith, some, e)

mark_next : (n c : ℕ) (cs : List ℕ) → (c == 96) ≡ true → before_run n 0 (drop (marks (c ∷ cs)) (c ∷ cs)) ≡ before_run n 0 (drop (marks cs) cs)
mark_next n c cs e = ap (λ (a : Bool). before_run n 0 (drop (size cs a) (c ∷ cs))) e

other_next : (n c : ℕ) (cs : List ℕ) → 0 < n → (c == 96) ≡ false → before_run n 0 (drop (marks (c ∷ cs)) (c ∷ cs)) ≡ plus 1 (before_run n 0 cs)
other_next n c cs some e = ap (λ (a : Bool). before_run n 0 (drop (size cs a) (c ∷ cs))) e ∙ other_step n 0 c cs e (not_zero n some)

-- where the run at the front has another length, the text lacks what stands nowhere behind it
whole_lacks : (n j : ℕ) (t : List ℕ) → 0 < n → (j + marks t ≡ n → ⊥) → LacksNext n t → before_run n j t ≡ None
whole_lacks n j [] some ne h = no_more n j (λ e. ne (omega (arith, e)))
whole_lacks n j (c ∷ cs) some ne h = go (c == 96) refl (whole_lacks n (suc j) cs some) where
  go : (a : Bool) → (c == 96) ≡ a → ((suc j + marks cs ≡ n → ⊥) → LacksNext n cs → before_run n (suc j) cs ≡ None) → before_run n j (c ∷ cs) ≡ None
  go true e rest =
      let longer : marks (c ∷ cs) ≡ suc (marks cs) = ap (size cs) e in
      mark_step n j c cs e ∙ ap (plus 1) (rest (λ f. ne (omega (arith, longer, f))) (sym (mark_next n c cs e) ∙ h))
  go false e rest =
      let none : marks (c ∷ cs) ≡ 0 = ap (size cs) e in
      other_step n j c cs e (λ f. ne (omega (arith, none, f))) ∙ (sym (other_next n c cs some e) ∙ h)

-- what stands nowhere in a text stands nowhere behind its first run
front_lacks : (n j : ℕ) (t : List ℕ) → 0 < n → before_run n j t ≡ None → LacksNext n t
front_lacks n j [] some h = no_more n 0 (not_zero n some)
front_lacks n j (c ∷ cs) some h = go (c == 96) (n == j) refl refl (front_lacks n (suc j) cs some) where
  go : (a b : Bool) → (c == 96) ≡ a → (n == j) ≡ b → (before_run n (suc j) cs ≡ None → LacksNext n cs) → LacksNext n (c ∷ cs)
  go true b e f rest = mark_next n c cs e ∙ rest (plus_none (before_run n (suc j) cs) (sym (mark_step n j c cs e) ∙ h))
  go false true e f rest = absurd (found_none (before_run n j (c ∷ cs)) (ap (λ (a : Bool). step n j cs a (n == j)) e ∙ ap (λ (b : Bool). step n j cs false b) f) h)
  go false false e f rest = other_next n c cs some e ∙ (sym (ap (λ (a : Bool). step n j cs a (n == j)) e ∙ ap (λ (b : Bool). step n j cs false b) f) ∙ h)

-- ---- the rest of a text

rest_lacks : (n c : ℕ) (cs : List ℕ) → 0 < n → LacksNext n (c ∷ cs) → LacksNext n cs
rest_lacks n c cs some h = go (c == 96) refl where
  go : (a : Bool) → (c == 96) ≡ a → LacksNext n cs
  go true e = sym (mark_next n c cs e) ∙ h
  go false e = front_lacks n 0 cs some (plus_none (before_run n 0 cs) (sym (other_next n c cs some e) ∙ h))

drop_lacks : (n : ℕ) (t : List ℕ) (k : ℕ) → 0 < n → LacksNext n t → LacksNext n (drop k t)
drop_lacks n t zero some h = h
drop_lacks n [] (suc k) some h = h
drop_lacks n (c ∷ cs) (suc k) some h = drop_lacks n cs k some (rest_lacks n c cs some h)

pub runs_later : (known t : List ℕ) (k : ℕ) → LacksRuns known t → LacksRuns known (drop k t)
runs_later known t k h n some =
    let m = get_or known n 0 in
    let i = length (drop k t) - m in
    let j = k + i - (length t - m) in
    let place : length t - m + j ≡ k + i = omega (arith, length-drop k t) in
    subst (LacksNext n) (drop-drop j (length t - m) t ∙ ap (λ (p : ℕ). drop p t) place ∙ sym (drop-drop i k t)) (drop_lacks n (drop (length t - m) t) j some (h n some))

-- ---- one byte more in front

none_known : (known : List ℕ) → LacksRuns known []
none_known known n some =
    let none : length {A = ℕ} [] - get_or known n 0 ≡ 0 = omega arith in
    subst (λ (k : ℕ). LacksNext n (drop k [])) (sym none) (no_more n 0 (not_zero n some))

pub runs_at_end : (known t : List ℕ) (at : ℕ) → at ≡ length t → LacksRuns known (drop at t)
runs_at_end known t at e = subst (LacksRuns known) (sym (ap (λ (k : ℕ). drop k t) e ∙ drop-length t)) (none_known known)

known_more : (n k c : ℕ) (t : List ℕ) → (length t < k → LacksNext n t → LacksNext n (c ∷ t)) → LacksNext n (drop (length t - k) t) → LacksNext n (drop (length (c ∷ t) - k) (c ∷ t))
known_more n k c t front h = go (nat_lt (length t) k) refl where
  go : (b : Bool) → nat_lt (length t) k ≡ b → LacksNext n (drop (length (c ∷ t) - k) (c ∷ t))
  go true g =
      let lt : length t < k = grind (arith, g) in
      let all : length (c ∷ t) - k ≡ 0 = omega (arith, lt) in
      let rest : length t - k ≡ 0 = omega (arith, lt) in
      subst (λ (i : ℕ). LacksNext n (drop i (c ∷ t))) (sym all) (front lt (subst (λ (i : ℕ). LacksNext n (drop i t)) rest h))
  go false g =
      let le : k ≤ length t = grind (arith, g) in
      let place : length (c ∷ t) - k ≡ suc (length t - k) = omega (arith, le) in
      subst (λ (i : ℕ). LacksNext n (drop i (c ∷ t))) (sym place) h

runs_mark : (known t : List ℕ) (c : ℕ) → (c == 96) ≡ true → LacksRuns known t → LacksRuns known (c ∷ t)
runs_mark known t c e h n some = known_more n (get_or known n 0) c t (λ lt g. mark_next n c t e ∙ g) (h n some)

-- what is noted of a run with so many bytes from its start on
abbrev pub Noted : List ℕ → List ℕ → ℕ → ℕ → Type 0
Noted old new run len = (n : ℕ) → get_or new n 0 ≡ cond (n == run) (min (get_or old n 0) len) (get_or old n 0)

runs_other : (old new t : List ℕ) (c run : ℕ) → (c == 96) ≡ false → run ≡ marks t → Noted old new run (length t) → LacksRuns old t → LacksRuns new (c ∷ t)
runs_other old new t c run e whole noted h n some = go (n == run) refl where
  o : ℕ
  o = get_or old n 0

  go : (b : Bool) → (n == run) ≡ b → LacksNext n (drop (length (c ∷ t) - get_or new n 0) (c ∷ t))
  go true f =
      let is : get_or new n 0 ≡ min o (length t) = noted n ∙ ap (λ (b : Bool). cond b (min o (length t)) o) f in
      let place : length t - o ≡ length t - get_or new n 0 = omega (arith, is) in
      known_more n (get_or new n 0) c t (λ lt g. absurd (omega (arith, is, lt))) (subst (λ (i : ℕ). LacksNext n (drop i t)) place (h n some))
  go false f =
      let is : get_or new n 0 ≡ o = noted n ∙ ap (λ (b : Bool). cond b (min o (length t)) o) f in
      let other : 0 + marks t ≡ n → ⊥ = λ g. (let same : (n == run) ≡ true = grind (arith, whole, g) in cc) in
      known_more n (get_or new n 0) c t (λ lt g. other_next n c t some e ∙ ap (plus 1) (whole_lacks n 0 t some other g))
      (subst (λ (i : ℕ). LacksNext n (drop (length t - i) t)) (sym is) (h n some))

opened : (t : List ℕ) (at : ℕ) → 0 < at → at ≤ length t → drop (at - 1) t ≡ get_or t (at - 1) 0 ∷ drop at t
opened t at some within =
    let next : at - 1 + 1 ≡ at = omega (arith, some) in
    drop_more t (at - 1) 0 (omega (arith, some, within)) ∙ ap (λ (k : ℕ). get_or t (at - 1) 0 ∷ drop k t) next

-- a backtick more
pub one_mark : (known t : List ℕ) (at run : ℕ) → 0 < at → at ≤ length t → get_or t (at - 1) 0 ≡ 96 → run ≡ marks (drop at t) → LacksRuns known (drop at t) → (run + 1 ≡ marks (drop (at - 1) t)) × LacksRuns known (drop (at - 1) t)
one_mark known t at run some within e whole h =
    let test : (get_or t (at - 1) 0 == 96) ≡ true = grind (arith, e) in
    let longer : marks (drop (at - 1) t) ≡ suc (marks (drop at t)) = ap marks (opened t at some within) ∙ ap (size (drop at t)) test in
    (omega (arith, whole, longer), subst (LacksRuns known) (sym (opened t at some within)) (runs_mark known (drop at t) (get_or t (at - 1) 0) test h))

-- another byte more
pub one_other : (old new t : List ℕ) (at run len : ℕ) → 0 < at → at ≤ length t → (get_or t (at - 1) 0 ≡ 96 → ⊥) → run ≡ marks (drop at t) → len ≡ length t - at → Noted old new run len → LacksRuns old (drop at t)
    → (0 ≡ marks (drop (at - 1) t)) × LacksRuns new (drop (at - 1) t)
one_other old new t at run len some within e whole size_is noted h =
    let test : (get_or t (at - 1) 0 == 96) ≡ false = grind (arith, e) in
    let none : marks (drop (at - 1) t) ≡ 0 = ap marks (opened t at some within) ∙ ap (size (drop at t)) test in
    let length_is : len ≡ length (drop at t) = omega (arith, size_is, length-drop at t) in
    (sym none, subst (LacksRuns new) (sym (opened t at some within)) (runs_other old new (drop at t) (get_or t (at - 1) 0) run test whole (subst (Noted old new run) length_is noted) h))

pub marks_within : (t : List ℕ) (at : ℕ) → at ≤ length t → marks (drop at t) + at ≤ length t
marks_within t at within = omega (arith, within, run_within (λ c. c == 96) (drop at t), length-drop at t)
