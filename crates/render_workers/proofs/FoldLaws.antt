-- The outcomes of the items so far, and the fold over the items that are left.
use Rattle.std.proofs.Common.{◌≡◌, ◌≢◌, ◌⊎◌, inl, inr, ℕ, zero, suc, ◌+◌, ◌<◌, Bool, true, false, true≢false, cond, eqb, List, [], ◌∷◌, ◌++◌, length, drop, Option, Some, None, Result, Ok, Err, refl, ap, sym, ◌∙◌, subst, arith}
use Rattle.std.specs.Prelude.{slice_get}
use Rattle.std.specs.Str.{bytes_eq}
use Rattle.std.proofs.lemmas.Bool.Decides.{eqb_tells}
use Rattle.site_base.specs.Code.{code}
use Rattle.site_base.specs.Plain.{Plain}
use Rattle.site_base.specs.declared.faults.SiteFault.{SiteFault}
use Rattle.site_base.specs.declared.item_name.ItemName.{ItemName}
use Rattle.read_record.specs.declared.key.Key.{Key}
use Rattle.read_record.specs.declared.outcome.Outcome.{Outcome}
use Rattle.read_record.specs.declared.outcome.Outcome.TheVariants.{Done, Fault}
use Rattle.read_record.specs.declared.outcome.Agreement.TheVariants as agreement
use Rattle.read_record.specs.declared.outcome.Checked.{Checked}
use Rattle.read_record.specs.declared.outcome.Checked.TheVariants as checked
use Rattle.read_record.specs.Queries.{Query, Give, Fail, Ask, Reply, View, Known, Missing, on_reply, Met, Gave, Failed, Missed, interpret, needed_item, Reads}
use Rattle.read_record.specs.Records.{agreement_of, checked_at, first_other_from, first_other}
use Rattle.read_record.specs.Outcomes.{Page, met_of, is_done}
use Rattle.read_record.specs.Worlds.{Sight, Lawful}
use Rattle.read_record.specs.Entries.{Kept}
use Rattle.round_core.specs.Meant.{Given, outcome_of, outs_below, meant}
use Rattle.render_workers.specs.Folds.{counted, Folded, after_count, after_item, fold_from, IsTold, AreDone}
use Rattle.render_workers.specs.Turns.{waits_at, waits_for}

-- ---- one outcome more

module _ {A : Type 0} where
  pub length-push : (xs : List A) (x : A) → length (xs ++ x ∷ []) ≡ suc (length xs)
  length-push [] x = refl
  length-push (y ∷ xs) x = ap suc (length-push xs x)

  get-last : (xs : List A) (x : A) → slice_get (xs ++ x ∷ []) (length xs) ≡ Some x
  get-last [] x = refl
  get-last (y ∷ xs) x = get-last xs x

  get-other : (xs : List A) (x : A) (j : ℕ) → (j ≡ length xs → ⊥) → slice_get (xs ++ x ∷ []) j ≡ slice_get xs j
  get-other [] x zero h = absurd (h refl)
  get-other [] x (suc j) h = refl
  get-other (y ∷ xs) x zero h = refl
  get-other (y ∷ xs) x (suc j) h = get-other xs x j (λ e. h (ap suc e))

  pub drop-next : (xs : List A) (i : ℕ) (x : A) → slice_get xs i ≡ Some x → drop i xs ≡ x ∷ drop (suc i) xs
  drop-next [] i x h = cc
  drop-next (y ∷ xs) zero x h = let e : y ≡ x = cc in ap (λ z. z ∷ xs) e
  drop-next (y ∷ xs) (suc i) x h = drop-next xs i x h

-- the outcomes in a list are those of the items below, with that of one item more
pub known-push : (g : Given) (n : ℕ) (outs : List Outcome) (o : Outcome) → length outs ≡ n → slice_get outs ≡ outs_below g n → outcome_of (meant g n) ≡ Some o → slice_get (outs ++ o ∷ []) ≡ outs_below g (suc n)
unfolding outs_below
known-push g n outs o count known met = λ i j. at j i
  where
    go : (j : ℕ) → ((eqb j n ≡ true) × (j ≡ n)) ⊎ ((eqb j n ≡ false) × (j ≢ n)) → slice_get (outs ++ o ∷ []) j ≡ cond (eqb j n) (outcome_of (meant g n)) (outs_below g n j)
    go j (inl e) = rw e.0 (ap (slice_get (outs ++ o ∷ [])) (e.1 ∙ sym count) ∙ get-last outs o ∙ sym met)
    go j (inr e) = rw e.0 (get-other outs o j (λ q. e.1 (q ∙ count)) ∙ ap (λ (f : ℕ → Option Outcome). f j) known)

    at : (j : ℕ) → slice_get (outs ++ o ∷ []) j ≡ cond (eqb j n) (outcome_of (meant g n)) (outs_below g n j)
    at j = go j (eqb_tells j n)

pub counted-done : (o : Outcome) (name : ItemName) (bytes n : ℕ) → counted o name bytes ≡ Ok n → is_done (Some o) ≡ true
counted-done (Done content output) name bytes n h = refl
counted-done (Fault f) name bytes n h = cc

pub done-push : (n : ℕ) (outs : List Outcome) (o : Outcome) → length outs ≡ n → AreDone n (slice_get outs) → is_done (Some o) ≡ true → AreDone (suc n) (slice_get (outs ++ o ∷ []))
done-push n outs o count done h j l = go (eqb_tells j n)
  where
    go : ((eqb j n ≡ true) × (j ≡ n)) ⊎ ((eqb j n ≡ false) × (j ≢ n)) → is_done (slice_get (outs ++ o ∷ []) j) ≡ true
    go (inl e) = ap is_done (ap (slice_get (outs ++ o ∷ [])) (e.1 ∙ sym count) ∙ get-last outs o) ∙ h
    go (inr e) = let f = e.1 in ap is_done (get-other outs o j (λ q. e.1 (q ∙ count))) ∙ done j (omega arith)

-- ---- a view that misses nothing

abbrev pub MissesNothing : View → Type 0
MissesNothing view = (k : Key) (j : ℕ) → view k ≡ Missing j → ⊥

-- that of an item before which all items are done
pub misses-nothing : (sight : Sight) → Lawful sight → (n : ℕ) (known : ℕ → Option Outcome) → AreDone n known → MissesNothing (sight n known)
misses-nothing sight lawful n known done k j e = let m = lawful.misses n known k j e in true≢false (sym (done j m.0) ∙ m.1)

module _ (view : View) (all : MissesNothing view) where
  module _ {F A : Type 0} where
    pub needs-none : (q : Query F A) (j : ℕ) → needed_item (interpret view q) ≡ Some j → ⊥
    needs-none (Give a) j h = cc
    needs-none (Fail e) j h = cc
    needs-none (Ask k on) j h = go (view k) refl (λ v. needs-none (on v) j) h
      where
        go : (r : Reply) → view k ≡ r → ((v : Plain) → needed_item (interpret view (on v)) ≡ Some j → ⊥) → needed_item (on_reply r (λ v. interpret view (on v)) (λ i. Missed k i)) ≡ Some j → ⊥
        go (Known v) e ih f = ih v f
        go (Missing i) e ih f = all k i e

  other-needs-none : (rs : Reads) (n j : ℕ) → first_other_from n rs view ≡ checked.Needs j → ⊥
  other-needs-none [] n j h = cc
  other-needs-none (r ∷ rs) n j h = go (view r.0) refl (other-needs-none rs (n + 1) j) h
    where
      at : (b : Bool) → (first_other_from (n + 1) rs view ≡ checked.Needs j → ⊥) → checked_at (cond b agreement.Same agreement.Other) n (first_other_from (n + 1) rs view) ≡ checked.Needs j → ⊥
      at true ih f = ih f
      at false ih f = cc

      go : (s : Reply) → view r.0 ≡ s → (first_other_from (n + 1) rs view ≡ checked.Needs j → ⊥) → checked_at (agreement_of s r.1) n (first_other_from (n + 1) rs view) ≡ checked.Needs j → ⊥
      go (Known w) e ih f = at (bytes_eq r.1 (code w)) ih f
      go (Missing i) e ih f = all r.0 i e

  -- no item has to be done first
  pub waits-none : (kept : Option Kept) (q : Query SiteFault Page) (j : ℕ) → waits_for kept view q ≡ Some j → ⊥
  waits-none None q j h = needs-none q j h
  waits-none (Some e) q j h = go (first_other e.reads view) refl h
    where
      go : (c : Checked) → first_other e.reads view ≡ c → waits_at c (needed_item (interpret view q)) ≡ Some j → ⊥
      go checked.Agrees is f = cc
      go (checked.Differs p) is f = needs-none q j f
      go (checked.Needs i) is f = other-needs-none e.reads 0 i is

-- ---- the fold

after-met : (o : Outcome) (name : ItemName) (outs : List Outcome) (bytes : ℕ) (next : List Outcome → ℕ → Folded) → after_item (met_of o) name outs bytes next ≡ after_count (counted o name bytes) o outs next
after-met (Done content output) name outs bytes next = refl
after-met (Fault f) name outs bytes next = refl

-- one item of the fold, by what it comes to
pub fold-next : (g : Given) (name : ItemName) (names : List ItemName) (outs : List Outcome) (bytes : ℕ) (o : Outcome) → interpret (g.sight (length outs) (slice_get outs)) (g.item name) ≡ met_of o
    → fold_from g (name ∷ names) outs bytes ≡ after_count (counted o name bytes) o outs (fold_from g names)
unfolding fold_from
fold-next g name names outs bytes o e = ap (λ m. after_item m name outs bytes (fold_from g names)) e ∙ after-met o name outs bytes (fold_from g names)

pub fold-end : (g : Given) (outs : List Outcome) (bytes : ℕ) → fold_from g [] outs bytes ≡ Gave outs
unfolding fold_from
fold-end g outs bytes = refl

module _ (g : Given) (lawful : Lawful g.sight) where
  -- the fold misses no key
  pub fold-told : (names : List ItemName) (outs : List Outcome) (bytes : ℕ) → AreDone (length outs) (slice_get outs) → IsTold (fold_from g names outs bytes)
  unfolding fold_from
  fold-told [] outs bytes done = tt
  fold-told (name ∷ names) outs bytes done =
      go (interpret (g.sight (length outs) (slice_get outs)) (g.item name)) refl
      (λ o b h. fold-told names (outs ++ o ∷ []) b (subst (λ n. AreDone n (slice_get (outs ++ o ∷ []))) (sym (length-push outs o)) (done-push (length outs) outs o refl done h)))
    where
      count : (o : Outcome) (r : Result ℕ SiteFault) → counted o name bytes ≡ r → ((p : Outcome) (b : ℕ) → is_done (Some p) ≡ true → IsTold (fold_from g names (outs ++ p ∷ []) b)) → IsTold (after_count r o outs (fold_from g names))
      count o (Ok b) e ih = ih o b (counted-done o name bytes b e)
      count o (Err f) e ih = tt

      go : (m : Met SiteFault Page) → interpret (g.sight (length outs) (slice_get outs)) (g.item name) ≡ m → ((p : Outcome) (b : ℕ) → is_done (Some p) ≡ true → IsTold (fold_from g names (outs ++ p ∷ []) b))
          → IsTold (after_item m name outs bytes (fold_from g names))
      go (Gave page) e ih = count (Done page.content page.output) (counted (Done page.content page.output) name bytes) refl ih
      go (Failed f) e ih = tt
      go (Missed k j) e ih = needs-none (g.sight (length outs) (slice_get outs)) (misses-nothing g.sight lawful (length outs) (slice_get outs) done) (g.item name) j (ap needed_item e)

pub told : (g : Given) → Lawful g.sight → (fixed : ℕ) → IsTold (fold_from g g.names [] fixed)
told g lawful fixed = fold-told g lawful g.names [] fixed (λ j l. let h : j < 0 = l in absurd (omega arith))
