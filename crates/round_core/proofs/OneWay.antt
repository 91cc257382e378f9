-- A list of events leaves one state at most: there is one certified entry that tells what an item comes to over a view.
use Rattle.std.proofs.Common.{◌≡◌, ℕ, zero, suc, take, List, [], ◌∷◌, ◌++◌, Option, Some, None, refl, ap, sym, ◌∙◌, subst, append_assoc, append-nil}
use Rattle.std.specs.Prelude.{slice_get}
use Rattle.std.specs.Map.{lookup}
use Rattle.site_base.specs.Plain.{Plain}
use Rattle.site_base.specs.declared.faults.SiteFault.{SiteFault}
use Rattle.site_base.specs.declared.item_name.ItemName.{ItemName}
use Rattle.read_record.specs.declared.key.Key.{Key}
use Rattle.read_record.specs.declared.outcome.Checked.TheVariants as checked
use Rattle.read_record.specs.Keys.{same_key}
use Rattle.read_record.specs.Queries.{Query, Give, Fail, Ask, View, Known, on_reply, Met, Gave, Failed, Missed, interpret, missed_key}
use Rattle.read_record.specs.Records.{Seen, coded, reply_of, recorded, Answers, IsMade, Shows, first_other, first_other_from}
use Rattle.read_record.specs.Outcomes.{Page, met_of}
use Rattle.read_record.specs.Entries.{Kept, Tells}
use Rattle.read_record.proofs.SeenLaws.{found-more, found-new}
use Rattle.read_record.proofs.RecordLaws.{agrees-answers}
use Rattle.round_core.specs.declared.event.Event.{Event}
use Rattle.round_core.specs.declared.event.Event.TheVariants as event
use Rattle.round_core.specs.declared.made.Made.TheVariants as made'
use Rattle.round_core.specs.Meant.{Given, outcome_of}
use Rattle.round_core.specs.States.{State, with_cell}
use Rattle.round_core.specs.Steps.{Steps, Reaches}
use Rattle.round_core.proofs.MeantLaws.{outcome_met}

module _ {F A : Type 0} where
  missed-new : (front : Seen) (q : Query F A) (k : Key) → missed_key (interpret (recorded front) q) ≡ Some k → lookup (same_key k) front ≡ None
  missed-new front (Give a) k h = cc
  missed-new front (Fail e) k h = cc
  missed-new front (Ask j on) k h = go (lookup (same_key j) front) refl (λ v. missed-new front (on v) k) h
    where
      go : (o : Option Plain) → lookup (same_key j) front ≡ o → ((v : Plain) → missed_key (interpret (recorded front) (on v)) ≡ Some k → lookup (same_key k) front ≡ None)
          → missed_key (on_reply (reply_of o) (λ v. interpret (recorded front) (on v)) (λ n. Missed j n)) ≡ Some k → lookup (same_key k) front ≡ None
      go (Some v) e ih m = ih v m
      go None e ih m = let same : j ≡ k = cc in subst (λ i. lookup (same_key i) front ≡ None) same e

  not-missed : (m : Met F A) (k : Key) → IsMade m → missed_key m ≡ Some k → ⊥
  not-missed (Gave a) k made h = cc
  not-missed (Failed e) k made h = cc
  not-missed (Missed j n) k made h = made

  module _ (view : View) (q : Query F A) where
    -- what is needed next has the value that the view gives
    next-value : (front : Seen) (s : Key × Plain) (back all : Seen) → all ≡ front ++ s ∷ back → missed_key (interpret (recorded front) q) ≡ Some s.0 → Answers all view → view s.0 ≡ Known s.1
    next-value front s back all is missed answers =
        let new : lookup (same_key s.0) front ≡ None = missed-new front q s.0 missed in
        let there : lookup (same_key s.0) ((front ++ s ∷ []) ++ back) ≡ Some s.1 = found-more s.0 s.1 (front ++ s ∷ []) back (found-new s.0 s.1 front new) in
        answers s.0 s.1 (ap (λ x. lookup (same_key s.0) x) (is ∙ sym (append_assoc front (s ∷ []) back)) ∙ there)

    module _ (m n : Met F A) (xs ys : Seen) (a : Shows xs q m) (b : Shows ys q n) (answers-xs : Answers xs view) (answers-ys : Answers ys view) where
      rests : (front s t : Seen) → xs ≡ front ++ s → ys ≡ front ++ t → s ≡ t
      rests front [] [] e f = refl
      rests front [] (y ∷ ys') e f =
          absurd (not-missed (interpret (recorded xs) q) y.0 (subst IsMade (sym a.gives) a.made) (ap (λ zs. missed_key (interpret (recorded zs) q)) (e ∙ append-nil front) ∙ b.needed front y ys' f))
      rests front (x ∷ xs') [] e f =
          absurd (not-missed (interpret (recorded ys) q) x.0 (subst IsMade (sym b.gives) b.made) (ap (λ zs. missed_key (interpret (recorded zs) q)) (f ∙ append-nil front) ∙ a.needed front x xs' e))
      rests front (x ∷ xs') (y ∷ ys') e f =
          let p : missed_key (interpret (recorded front) q) ≡ Some x.0 = a.needed front x xs' e in
          let r : missed_key (interpret (recorded front) q) ≡ Some y.0 = b.needed front y ys' f in
          let s : Some x.0 ≡ Some y.0 = sym p ∙ r in
          let key : x.0 ≡ y.0 = cc in
          let v : view x.0 ≡ Known x.1 = next-value front x xs' xs e p answers-xs in
          let w : view y.0 ≡ Known y.1 = next-value front y ys' ys f r answers-ys in
          let u : Known x.1 ≡ Known y.1 = sym v ∙ ap view key ∙ w in
          let value : x.1 ≡ y.1 = cc in
          let same : x ≡ y = λ i. (key i, value i) in
          let g : ys ≡ (front ++ x ∷ []) ++ ys' = f ∙ ap (λ z. front ++ z ∷ ys') (sym same) ∙ sym (append_assoc front (x ∷ []) ys') in
          let rest : xs' ≡ ys' = rests (front ++ x ∷ []) xs' ys' (e ∙ sym (append_assoc front (x ∷ []) xs')) g in
          λ i. same i ∷ rest i

      pub one-record : xs ≡ ys
      one-record = rests [] xs ys refl refl

-- one certified entry tells what an item comes to over a view
pub one-entry : (view : View) (name : ItemName) (q : Query SiteFault Page) (a b : Kept) → Tells view name q a → Tells view name q b → a ≡ b
one-entry view name q a b s t =
    let ca = s.certified in
    let cb = t.certified in
    let there : first_other_from 0 (coded ca.seen) view ≡ checked.Agrees = ap (λ r. first_other r view) ca.are ∙ s.agrees in
    let here : first_other_from 0 (coded cb.seen) view ≡ checked.Agrees = ap (λ r. first_other r view) cb.are ∙ t.agrees in
    let seen = one-record view q (met_of a.outcome) (met_of b.outcome) ca.seen cb.seen ca.shows cb.shows (agrees-answers ca.seen view 0 there) (agrees-answers cb.seen view 0 here) in
    let reads : a.reads ≡ b.reads = sym ca.are ∙ ap coded seen ∙ cb.are in
    let names : a.name ≡ b.name = s.named ∙ sym t.named in
    let some : Some a.outcome ≡ Some b.outcome = sym (outcome_met a.outcome) ∙ ap outcome_of (sym s.outcome ∙ t.outcome) ∙ outcome_met b.outcome in
    let outcome : a.outcome ≡ b.outcome = cc in
    λ i. record { name = names i; reads = reads i; outcome = outcome i }

module _ {M : Type 0} (g : Given) (workers : ℕ) where
  one-step : (s t u : State M) (e : Event) → Steps g workers s e t → Steps g workers s e u → t ≡ u
  one-step s t u (event.Claim w i) a b = a.after ∙ sym b.after
  one-step s t u (event.Take w i) a b = a.after ∙ sym b.after
  one-step s t u (event.Keep w i) a b = a.after ∙ sym b.after
  one-step s t u (event.Finish w i) a b = a.after ∙ ap (λ e. with_cell i (made'.New e) s) (one-entry _ _ _ a.entry b.entry a.tells b.tells) ∙ sym b.after

  -- the events leave one state at most
  pub one-state : (es : List Event) (s t u : State M) → Reaches g workers s es t → Reaches g workers s es u → u ≡ t
  one-state [] s t u a b = b ∙ sym a
  one-state (e ∷ es) s t u a b = one-state es a.0 t u a.2 (subst (λ x. Reaches g workers x es u) (one-step s b.0 a.0 e b.1 a.1) b.2)

  -- events that leave a state are allowed at each place
  reached-at : (es : List Event) (k : ℕ) (s u : State M) (e : Event) → slice_get es k ≡ Some e → Reaches g workers s es u → (v : State M) × Reaches g workers s (take k es) v × ((w : State M) × Steps g workers v e w)
  reached-at [] k s u e h r = cc
  reached-at (f ∷ es) zero s u e h r = let same : f ≡ e = cc in (s, refl, (r.0, subst (λ x. Steps g workers s x r.0) same r.1))
  reached-at (f ∷ es) (suc k) s u e h r = let p = reached-at es k r.0 u e h r.2 in (p.0, (r.0, r.1, p.1), p.2)

  -- events one of which is not allowed leave none
  pub no-state : (es : List Event) (k : ℕ) (s v : State M) (e : Event) → Reaches g workers s (take k es) v → slice_get es k ≡ Some e → ((w : State M) → ¬ (Steps g workers v e w)) → (u : State M) → ¬ (Reaches g workers s es u)
  no-state es k s v e before h refused u r =
      let p = reached-at es k s u e h r in
      refused p.2.0 (subst (λ x. Steps g workers x e p.2.0) (one-state (take k es) s v p.0 before p.1) p.2.1)
