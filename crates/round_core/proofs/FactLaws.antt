-- Each event keeps what holds of a state.
use Rattle.std.proofs.Common.{◌≡◌, ⊎_elim, ℕ, ◌+◌, ◌<◌, ◌≤◌, Bool, true, false, true≢false, cond, suc, zero, length, get_or, take, add-one, List, [], ◌∷◌, ◌++◌, Option, Some, None, refl, ap, sym, ◌∙◌, subst, arith}
use Rattle.std.specs.Prelude.{slice_get}
use Rattle.read_record.specs.declared.outcome.Outcome.{Outcome}
use Rattle.read_record.specs.Queries.{interpret}
use Rattle.read_record.specs.Outcomes.{met_of}
use Rattle.read_record.specs.Worlds.{Lawful}
use Rattle.read_record.specs.Entries.{Kept, Tells}
use Rattle.read_record.proofs.RecordLaws.{carried}
use Rattle.round_core.specs.declared.event.Event.{Event}
use Rattle.round_core.specs.declared.event.Event.TheVariants as event
use Rattle.round_core.specs.declared.made.Made.{Made}
use Rattle.round_core.specs.declared.made.Made.TheVariants as made'
use Rattle.round_core.specs.Meant.{Given, name_at, query_at, kept_at, view_at, meant, stale}
use Rattle.round_core.specs.States.{State, nobody, at, knows, shown, cell_entry, its_outcome, outs, with_cell}
use Rattle.round_core.specs.Steps.{sees, Claims, Takes, Keeps, Finishes, Steps, Reaches}
use Rattle.round_core.specs.Facts.{times, numbers, is_new, AreMeant, Facts, KeptCertified, IsSound}
use Rattle.round_core.proofs.Listing.{at-more, at-longer, numbers-more, absent, once-more, knows-more}
use Rattle.round_core.proofs.MeantLaws.{tells-meant, differs-stale, agrees-fresh}

-- a cell that is right
abbrev IsCellRight : {M : Type 0} → Given → ℕ → Made M → Type 0
IsCellRight {M} g i m = ((e : Kept) × (shown (kept_at g i) (Some m) ≡ Some e) × Tells (view_at g i) (name_at g i) (query_at g i) e) × (is_new m ≡ stale g i)

outcome-right : (g : Given) (i : ℕ) (k : Option Kept) (o : Outcome) → ((e : Kept) → k ≡ Some e → met_of e.outcome ≡ meant g i) → its_outcome k ≡ Some o → met_of o ≡ meant g i
outcome-right g i None o f h = cc
outcome-right g i (Some e) o f h = let t : e.outcome ≡ o = cc in subst (λ y. met_of y ≡ meant g i) t (f e refl)

module _ {M : Type 0} (g : Given) (lawful : Lawful g.sight) where
  -- what a worker knows is what is meant
  pub knows-right : (s : State M) → Facts g s → (w : ℕ) → AreMeant g (outs g s w)
  knows-right s facts w i o h = go (knows w i s.known) refl h
    where
      same : (a b : Kept) → cell_entry g s i ≡ Some a → cell_entry g s i ≡ Some b → a ≡ b
      same a b e f = let h : Some a ≡ Some b = sym e ∙ f in cc

      go : (b : Bool) → knows w i s.known ≡ b → cond b (its_outcome (cell_entry g s i)) None ≡ Some o → met_of o ≡ meant g i
      go true k f =
          let c = facts.set w i k in
          let r = facts.right i c.0 c.1 in
          outcome-right g i (cell_entry g s i) o (λ e h. ap (λ (y : Kept). met_of y.outcome) (same e r.0 h r.1) ∙ sym r.2.outcome) f
      go false k f = cc

  module _ (workers : ℕ) (s : State M) (facts : Facts g s) (w i : ℕ) where
    claims : (t : State M) → Claims g workers s w i t → Facts g t
    claims t c = subst (Facts g) (sym c.after) (record {
      once = λ x. subst (λ xs. times x xs ≤ 1) (sym (numbers-more s.claims i w)) (once-more x i (numbers s.claims) (facts.once x) (absent s.claims i c.free));
      claimed = λ j m e. (let f = facts.claimed j m e in (f.0, at-longer s.claims _ j f.0 f.1));
      set = facts.set;
      right = facts.right;
      fresh = facts.fresh;
    })

    cell-set : (m : Made M) → at i s.claims ≡ Some w → at i s.cells ≡ None → IsCellRight g i m → Facts g (with_cell i m s)
    cell-set m mine empty is = record {
      once = facts.once;
      claimed = λ j a e. ⊎_elim (λ h. facts.claimed j a h) (λ h. (w, ap (λ y. at y s.claims) h.1 ∙ mine)) (at-more s.cells i m a j e);
      set = λ u j k. (let c = facts.set u j k in (c.0, at-longer s.cells _ j c.0 c.1));
      right = λ j a e. rw e (whole j a e).0;
      fresh = λ j a e. (whole j a e).1;
    }
      where
        whole : (j : ℕ) (a : Made M) → at j (s.cells ++ (i, m) ∷ []) ≡ Some a → IsCellRight g j a
        whole j a e =
            ⊎_elim (λ (h : at j s.cells ≡ Some a). (let r = facts.right j a h in ((r.0, ap (shown (kept_at g j)) (sym h) ∙ r.1, r.2), facts.fresh j a h)))
            (λ (h : (at j s.cells ≡ None) × (j ≡ i) × (m ≡ a)). subst (λ (p : ℕ × Made M). IsCellRight g p.0 p.1) (λ t. (sym h.1 t, h.2 t)) is)
            (at-more s.cells i m a j e)

    takes : (t : State M) → Takes g workers s w i t → Facts g t
    takes t c = subst (Facts g) (sym c.after) (record {
      once = facts.once;
      claimed = facts.claimed;
      set = λ u j k. ⊎_elim (λ a. facts.set u j a) (λ b. subst (λ y. (m : Made M) × (at y s.cells ≡ Some m)) (sym b) (there (at i s.cells) refl c.set)) (knows-more s.known w i u j k);
      right = facts.right;
      fresh = facts.fresh;
    })
      where
        there : (o : Option (Made M)) → at i s.cells ≡ o → shown (kept_at g i) o ≡ Some c.entry → (m : Made M) × (at i s.cells ≡ Some m)
        there (Some m) is f = (m, is)
        there None is f = cc

    keeps : (t : State M) → Keeps g workers s w i t → KeptCertified g i → Facts g t
    keeps t c certified =
        let known = knows-right s facts w in
        let kept = certified c.entry c.kept in
        let met : interpret (sees g workers s w i) (query_at g i) ≡ met_of c.entry.outcome = carried c.entry.reads (sees g workers s w i) c.agrees (query_at g i) (met_of c.entry.outcome) kept.1 in
        let tells : Tells (view_at g i) (name_at g i) (query_at g i) c.entry = tells-meant g lawful (outs g s w) known i c.entry (record { named = kept.0; outcome = met; agrees = c.agrees; certified = kept.1 }) in
        subst (Facts g) (sym c.after) (cell-set made'.Kept c.mine c.empty ((c.entry, c.kept, tells), sym (agrees-fresh g lawful (outs g s w) known i c.entry c.kept c.agrees)))

    finishes : (t : State M) → Finishes g workers s w i t → Facts g t
    finishes t c =
        let known = knows-right s facts w in
        subst (Facts g) (sym c.after) (cell-set (made'.New c.entry) c.mine c.empty ((c.entry, refl, tells-meant g lawful (outs g s w) known i c.entry c.tells), sym (differs-stale g lawful (outs g s w) known i c.differs)))

  pub step-keeps : (workers : ℕ) (s t : State M) (e : Event) → Facts g s → Steps g workers s e t → IsSound g e → Facts g t
  step-keeps workers s t (event.Claim w i) facts h sound = claims workers s facts w i t h
  step-keeps workers s t (event.Take w i) facts h sound = takes workers s facts w i t h
  step-keeps workers s t (event.Keep w i) facts h sound = keeps workers s facts w i t h sound
  step-keeps workers s t (event.Finish w i) facts h sound = finishes workers s facts w i t h

  pub start : Facts g (nobody {M = M})
  start = record {
    once = λ x. omega arith;
    claimed = λ i m e. cc;
    set = λ w i k. absurd (true≢false (sym k));
    right = λ i m e. cc;
    fresh = λ i m e. cc;
  }

module _ {M : Type 0} (g : Given) (workers : ℕ) where
  reaches-more : (es : List Event) (s t u : State M) (e : Event) → Reaches g workers s es t → Steps g workers t e u → Reaches g workers s (es ++ e ∷ []) u
  reaches-more [] s t u e r h = (u, subst (λ x. Steps g workers x e u) r h, refl)
  reaches-more (f ∷ fs) s t u e r h = (r.0, r.1, reaches-more fs r.0 t u e r.2 h)

take-suc : {A : Type 0} (xs : List A) (i : ℕ) (x : A) → slice_get xs i ≡ Some x → take (suc i) xs ≡ take i xs ++ x ∷ []
take-suc [] i x h = cc
take-suc (y ∷ xs) zero x h = let e : y ≡ x = cc in ap (λ z. z ∷ []) e
take-suc (y ∷ xs) (suc i) x h = ap (λ ys. y ∷ ys) (take-suc xs i x h)

-- the event at the next place is allowed
pub reaches-next : {M : Type 0} (g : Given) (workers : ℕ) (es : List Event) (i : ℕ) (s t u : State M) (e : Event) → slice_get es i ≡ Some e → Reaches g workers s (take i es) t → Steps g workers t e u → Reaches g workers s (take (i + 1) es) u
reaches-next {M} g workers es i s t u e there r h =
    subst (λ xs. Reaches {M = M} g workers s xs u) (sym (ap (λ k. take k es) (add-one i) ∙ take-suc es i e there)) (reaches-more g workers (take i es) s t u e r h)

pub element-there : {A : Type 0} (xs : List A) (i : ℕ) (d : A) → i < length xs → slice_get xs i ≡ Some (get_or xs i d)
element-there [] i d h = absurd (omega arith)
element-there (x ∷ xs) zero d h = refl
element-there (x ∷ xs) (suc i) d h = element-there xs i d (omega arith)
