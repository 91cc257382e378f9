-- Each kind of step keeps the rule of the table.
use Rattle.std.proofs.Common.{◌≡◌, ◌≢◌, ◌⊎◌, ℕ, zero, suc, ◌+◌, ◌<◌, ◌≤◌, length, List, [], ◌∷◌, ◌++◌, set, true, false, refl, sym, ap, ◌∙◌, subst, arith, inl, inr, eqb, eq-eqb, ne_eqb, if◌then◌else◌}
use Rattle.std.specs.Prelude.{slice_index}
use Rattle.std.proofs.lemmas.List.{get_or-set_same, get_or-set_other, length-set}
use Rattle.std.proofs.lemmas.Bool.Decides.{eqb_tells}
use native.Mathlib.Decide.{ℕ_discrete}
use mathlib.Core.Option.{some, none, some-ne-none, some-injective}
use lib.ListN.{get_elem?}
use prog.Atomic.{either}
use Rattle.atomic_table.specs.Table.{State, step, keeps, Allows, Splits, Joins}
use Rattle.atomic_table.proofs.Lists.{set_here}
use Rattle.claim_table.specs.declared.rule.SeatLists.{SeatLists}
use Rattle.claim_table.specs.Counts.{one_if_same, times, EachOnce}
use Rattle.claim_table.specs.Rule.{total, Stands, Agrees}
use Rattle.claim_table.specs.Steps.{empty_lists, after_claim, after_finish, joined_lists, Sitting, claims, finishes, looks}
use Rattle.claim_table.proofs.Counting.{times_append, times_other, times_self, times_added, times_without, one_of_two, is_one}

-- ---- a number of each seat, added up

total_set : (f : SeatLists → ℕ) (seats : List SeatLists) (i : ℕ) (v w : SeatLists) → get_elem? seats i ≡ some v → total f (set seats i w) + f v ≡ total f seats + f w
total_set f [] i v w e = absurd (some-ne-none v (sym e))
total_set f (u ∷ us) zero v w e = let s : f u ≡ f v = ap f (some-injective u v e) in omega arith
total_set f (u ∷ us) (suc i) v w e = let s = total_set f us i v w e in omega arith

total_added : (f : SeatLists → ℕ) (seats : List SeatLists) (v : SeatLists) → total f (seats ++ v ∷ []) ≡ total f seats + f v
total_added f [] v = omega arith
total_added f (u ∷ us) v = let s = total_added f us v in omega arith

total_at : (f : SeatLists → ℕ) (seats : List SeatLists) (i : ℕ) (v : SeatLists) → get_elem? seats i ≡ some v → f v ≤ total f seats
total_at f [] i v e = absurd (some-ne-none v (sym e))
total_at f (u ∷ us) zero v e = let s : f u ≡ f v = ap f (some-injective u v e) in omega arith
total_at f (u ∷ us) (suc i) v e = let s = total_at f us i v e in omega arith

here_length : (seats : List SeatLists) (i : ℕ) (v : SeatLists) → get_elem? seats i ≡ some v → i < length seats
here_length [] i v e = absurd (some-ne-none v (sym e))
here_length (u ∷ us) zero v e = omega arith
here_length (u ∷ us) (suc i) v e = let s = here_length us i v e in omega arith

-- ---- a word and a seat change

module _ (n : ℕ) (words : List ℕ) (seats : List SeatLists) (rule : Agrees n words seats) where
  -- The word i becomes w, and the seat id has the lists u: other items stand in them as before, and i does by the two words
  changed : (i id w : ℕ) (v u : SeatLists) → i < n → get_elem? seats id ≡ some v → w ≤ 2
      → ((x : ℕ) → x ≢ i → (times x u.mine ≡ times x v.mine) × (times x u.done ≡ times x v.done))
      → times i u.mine + one_if_same (slice_index words i) 1 ≡ times i v.mine + one_if_same w 1
      → times i u.done + one_if_same (slice_index words i) 2 ≡ times i v.done + one_if_same w 2
      → Agrees n (set words i w) (set seats id u)
  changed i id w v u inside at two others mine done = record { size = length-set words i w ∙ rule.size; each = λ x. here x (eqb_tells x i) }
    where
      here : (x : ℕ) → ((eqb x i ≡ true) × (x ≡ i)) ⊎ ((eqb x i ≡ false) × (x ≢ i)) → Stands (set seats id u) x (slice_index (set words i w) x)
      here x (inl e) =
          let e1 = e.1 in
          let word : slice_index (set words i w) x ≡ w = ap (λ j. slice_index (set words i w) j) e1 ∙ get_or-set_same words i w 0 (omega (arith, rule.size)) in
          let old = rule.each i in
          let m = total_set (λ v. times i v.mine) seats id v u at in
          let d = total_set (λ v. times i v.done) seats id v u at in
          rw word (subst (λ j. Stands (set seats id u) j w) (sym e1) (record { known = two; mine = omega (arith, old.mine, mine, m); done = omega (arith, old.done, done, d) }))
      here x (inr e) =
          let e1 = e.1 in
          let word : slice_index (set words i w) x ≡ slice_index words x = get_or-set_other words i x w 0 e1 in
          let old = rule.each x in
          let o = others x e1 in
          let m = total_set (λ v. times x v.mine) seats id v u at in
          let d = total_set (λ v. times x v.done) seats id v u at in
          rw word (record { known = old.known; mine = omega (arith, old.mine, o.0, m); done = omega (arith, old.done, o.1, d) })

  -- no item stands twice in one seat's lists
  once : (id : ℕ) (v : SeatLists) → get_elem? seats id ≡ some v → EachOnce v.mine v.done
  once id v at x =
      let old = rule.each x in
      let m = total_at (λ v. times x v.mine) seats id v at in
      let d = total_at (λ v. times x v.done) seats id v at in
      let both = one_of_two (slice_index words x) in
      omega (arith, old.mine, old.done)

abbrev pub Holds : ℕ → State (Unit {0}) SeatLists → Type 0
Holds n s = Agrees n s.words s.views

-- ---- the steps of one seat

module _ (n slots id i : ℕ) (me : Sitting) (inside : i < n) where
  claimed_at : (found : ℕ) → Dec (found ≡ 0) → (s : State (Unit {0}) SeatLists) → Holds n s → get_elem? s.views id ≡ some me.0 → slice_index s.words i ≡ found
      → Agrees n (set s.words i (either (eqb found 0) 1 found)) (set s.views id (after_claim found i me.0))
  claimed_at found (yes e) s h at is =
      let v = me.0 in
      let here = subst (λ k. Agrees n (set s.words i (either k 1 found)) (set s.views id (record { mine = if k then v.mine ++ i ∷ [] else v.mine; done = v.done; found = v.found ++ (i, found) ∷ [] }))) in
      here (sym (eq-eqb found 0 e))
      (changed n s.words s.views h i id 1 v (record { mine = v.mine ++ i ∷ []; done = v.done; found = v.found ++ (i, found) ∷ [] }) inside at (omega arith)
      (λ x ne. (times_append x v.mine (i ∷ []) ∙ (let o = times_other x i ne in omega arith), refl))
      (rw (is, e) (let a = times_added i v.mine in omega arith))
      (rw (is, e) (omega arith)))
  claimed_at found (no e) s h at is =
      let v = me.0 in
      let here = subst (λ k. Agrees n (set s.words i (either k 1 found)) (set s.views id (record { mine = if k then v.mine ++ i ∷ [] else v.mine; done = v.done; found = v.found ++ (i, found) ∷ [] }))) in
      here (sym (ne_eqb found 0 e))
      (changed n s.words s.views h i id found v (record { mine = v.mine; done = v.done; found = v.found ++ (i, found) ∷ [] }) inside at (subst (λ w. w ≤ 2) is (h.each i).known) (λ x ne. (refl, refl)) (rw is refl) (rw is refl))

  pub claims_allowed : Allows (Holds n) slots id me i (λ w. either (eqb w 0) 1 w) (claims (step slots i 0 1 none) me)
  claims_allowed s h homes at fits =
      let found = slice_index s.words i in
      let v = after_claim found i me.0 in
      let k = claimed_at found (ℕ_discrete found 0) s h at refl in
      (v, keeps, tt, k, ((h.each i).known, (refl, once n _ _ k id v (set_here s.views id v (here_length s.views id me.0 at)))))

  pub finishes_allowed : 0 < times i me.0.mine → Allows (Holds n) slots id me i (λ _. 2) (λ _. finishes (step slots i 2 0 none) me 2)
  finishes_allowed has s h homes at fits =
      let v = me.0 in
      let old = h.each i in
      let m = total_at (λ v. times i v.mine) s.views id v at in
      let one : slice_index s.words i ≡ 1 = is_one (slice_index s.words i) (omega (arith, old.mine)) in
      let same = times_self i in
      let all = times_without i v.mine has i in
      let k =
      changed n s.words s.views h i id 2 v (after_finish i v) inside at (omega arith)
      (λ x ne. ((let o = times_other x i ne in let w = times_without i v.mine has x in omega arith), times_append x v.done (i ∷ []) ∙ (let o = times_other x i ne in omega arith)))
      (rw one (omega arith))
      (rw one (let a = times_added i v.done in omega arith))
      in
      (after_finish i v, keeps, tt, k, (refl, once n _ _ k id (after_finish i v) (set_here s.views id (after_finish i v) (here_length s.views id v at))))

  pub looks_allowed : Allows (Holds n) slots id me i (λ w. w) (looks (step slots i 0 0 none) me)
  looks_allowed s h homes at fits =
      let v = me.0 in (
        v,
        keeps,
        tt,
        changed n s.words s.views h i id (slice_index s.words i) v v inside at (h.each i).known (λ x ne. (refl, refl)) refl refl,
        (refl, once n s.words s.views h id v at),
      )

-- ---- the steps of two seats

module _ (n id : ℕ) (v : SeatLists) where
  pub splits : Splits (Holds n) id v v empty_lists
  splits s h at = record {
    size = h.size;
    each = λ x.
        let old = h.each x in
        let m = total_added (λ v. times x v.mine) (set s.views id v) empty_lists in
        let d = total_added (λ v. times x v.done) (set s.views id v) empty_lists in
        let m' = total_set (λ v. times x v.mine) s.views id v v at in
        let d' = total_set (λ v. times x v.done) s.views id v v at in
        record { known = old.known; mine = omega (arith, old.mine); done = omega (arith, old.done) };
  }

  pub joins : (other : ℕ) (w : SeatLists) → Joins (Holds n) id v other w (joined_lists v w) empty_lists
  joins other w s h at ne there = record {
    size = h.size;
    each = λ x.
        let old = h.each x in
        let m = total_set (λ v. times x v.mine) s.views id v (joined_lists v w) at in
        let d = total_set (λ v. times x v.done) s.views id v (joined_lists v w) at in
        let m' = total_set (λ v. times x v.mine) (set s.views id (joined_lists v w)) other w empty_lists there in
        let d' = total_set (λ v. times x v.done) (set s.views id (joined_lists v w)) other w empty_lists there in
        let a = times_append x v.mine w.mine in
        let b = times_append x v.done w.done in
        record { known = old.known; mine = omega (arith, old.mine); done = omega (arith, old.done) };
  }
