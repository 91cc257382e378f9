-- What is met over what is known is what is meant.
use Rattle.std.proofs.Common.{◌≡◌, ◌≢◌, ◌⊎◌, inl, inr, ℕ, zero, suc, ◌+◌, ◌<◌, true, false, cond, eqb, [], ◌∷◌, Option, Some, None, refl, ap, sym, ◌∙◌, subst, arith}
use Rattle.std.proofs.lemmas.Bool.Decides.{eqb_tells}
use Rattle.site_base.specs.Plain.{Plain}
use Rattle.read_record.specs.declared.key.Key.{Key}
use Rattle.read_record.specs.declared.outcome.Outcome.{Outcome}
use Rattle.read_record.specs.declared.outcome.Outcome.TheVariants.{Done, Fault}
use Rattle.read_record.specs.declared.outcome.Agreement.{Agreement}
use Rattle.read_record.specs.declared.outcome.Agreement.TheVariants as agreement
use Rattle.read_record.specs.declared.outcome.Checked.{Checked}
use Rattle.read_record.specs.declared.outcome.Checked.TheVariants as checked
use Rattle.read_record.specs.Queries.{Query, Give, Fail, Ask, on_reply, Reply, View, Known, Missing, Missed, interpret, Reads}
use Rattle.read_record.specs.Records.{agreement_of, checked_at, first_other_from, first_other, IsMade}
use Rattle.read_record.specs.Outcomes.{met_of}
use Rattle.read_record.specs.Worlds.{Lawful}
use Rattle.read_record.specs.Entries.{Kept, Tells}
use Rattle.read_record.proofs.TraceLaws.{outcome-made}
use Rattle.round_core.specs.Meant.{Given, name_at, query_at, kept_at, outcome_of, outs_below, view_at, meant, is_stale, stale}
use Rattle.round_core.specs.Facts.{AreMeant}
use Rattle.round_core.specs.Steps.{Differs}

-- every answer of one view is an answer of the other
abbrev pub Within : View → View → Type 0
Within view more = (k : Key) (v : Plain) → view k ≡ Known v → more k ≡ Known v

interpret_within : {F A : Type 0} (view more : View) → Within view more → (q : Query F A) → IsMade (interpret view q) → interpret more q ≡ interpret view q
interpret_within view more within (Give a) made = refl
interpret_within view more within (Fail e) made = refl
interpret_within view more within (Ask k on) made = go (view k) refl (λ v. interpret_within view more within (on v)) made
  where
    go : (r : Reply) → view k ≡ r → ((v : Plain) → IsMade (interpret view (on v)) → interpret more (on v) ≡ interpret view (on v)) → IsMade (on_reply r (λ v. interpret view (on v)) (λ j. Missed k j)) →
        on_reply (more k) (λ v. interpret more (on v)) (λ j. Missed k j) ≡ on_reply r (λ v. interpret view (on v)) (λ j. Missed k j)
    go (Known v) e ih m = rw (within k v e) (ih v m)
    go (Missing j) e ih m = absurd m

-- it does not wait for an item
abbrev IsTold : Checked → Type 0
IsTold checked.Agrees = Unit {0}
IsTold (checked.Differs p) = Unit {0}
IsTold (checked.Needs j) = ⊥

first_within : (view more : View) → Within view more → (rs : Reads) (n : ℕ) → IsTold (first_other_from n rs view) → first_other_from n rs more ≡ first_other_from n rs view
first_within view more within [] n told = refl
first_within view more within (r ∷ rs) n told = go (view r.0) refl (first_within view more within rs (n + 1)) told
  where
    pick : (a : Agreement) → (IsTold (first_other_from (n + 1) rs view) → first_other_from (n + 1) rs more ≡ first_other_from (n + 1) rs view) → IsTold (checked_at a n (first_other_from (n + 1) rs view)) →
        checked_at a n (first_other_from (n + 1) rs more) ≡ checked_at a n (first_other_from (n + 1) rs view)
    pick agreement.Same ih t = ih t
    pick agreement.Other ih t = refl
    pick (agreement.Needs j) ih t = refl

    go : (s : Reply) → view r.0 ≡ s → (IsTold (first_other_from (n + 1) rs view) → first_other_from (n + 1) rs more ≡ first_other_from (n + 1) rs view) →
        IsTold (checked_at (agreement_of s r.1) n (first_other_from (n + 1) rs view)) →
        checked_at (agreement_of (more r.0) r.1) n (first_other_from (n + 1) rs more) ≡ checked_at (agreement_of s r.1) n (first_other_from (n + 1) rs view)
    go (Known w) e ih t = rw (within r.0 w e) (pick (agreement_of (Known w) r.1) ih t)
    go (Missing j) e ih t = absurd t

-- ---- the outcomes of the items below

pub outs_at : (g : Given) (n j : ℕ) → j < n → outs_below g n j ≡ outcome_of (meant g j)
unfolding outs_below
outs_at g zero j h = absurd (omega arith)
outs_at g (suc n) j h = go (eqb_tells j n) (outs_at g n j)
  where
    go : ((eqb j n ≡ true) × (j ≡ n)) ⊎ ((eqb j n ≡ false) × (j ≢ n)) → (j < n → outs_below g n j ≡ outcome_of (meant g j)) →
        cond (eqb j n) (outcome_of (interpret (g.sight n (outs_below g n)) (query_at g n))) (outs_below g n j) ≡ outcome_of (meant g j)
    go (inl e) ih = rw e.0 (ap (λ i. outcome_of (meant g i)) (sym e.1))
    go (inr e) ih = let f = e.1 in rw e.0 (ih (omega arith))

pub outcome_met : (o : Outcome) → outcome_of (met_of o) ≡ Some o
outcome_met (Done content output) = refl
outcome_met (Fault f) = refl

-- ---- what a worker sees that knows what is meant

module _ (g : Given) (lawful : Lawful g.sight) (known : ℕ → Option Outcome) (right : AreMeant g known) (i : ℕ) where
  within : Within (g.sight i known) (view_at g i)
  within = lawful.grows i known (outs_below g i) (λ j o below e. outs_at g i j below ∙ ap outcome_of (sym (right j o e)) ∙ outcome_met o)

  -- an outcome over what is known is the one that is meant
  pub met-meant : (o : Outcome) → interpret (g.sight i known) (query_at g i) ≡ met_of o → meant g i ≡ met_of o
  met-meant o e = interpret_within (g.sight i known) (view_at g i) within (query_at g i) (subst IsMade (sym e) (outcome-made o)) ∙ e

  other-meant : (rs : Reads) → IsTold (first_other rs (g.sight i known)) → first_other rs (view_at g i) ≡ first_other rs (g.sight i known)
  other-meant rs told = first_within (g.sight i known) (view_at g i) within rs 0 told

  -- what agrees with it agrees with what is meant
  pub agrees-meant : (rs : Reads) → first_other rs (g.sight i known) ≡ checked.Agrees → first_other rs (view_at g i) ≡ checked.Agrees
  agrees-meant rs e = other-meant rs (subst IsTold (sym e) tt) ∙ e

  pub differs-meant : (rs : Reads) (p : ℕ) → first_other rs (g.sight i known) ≡ checked.Differs p → first_other rs (view_at g i) ≡ checked.Differs p
  differs-meant rs p e = other-meant rs (subst IsTold (sym e) tt) ∙ e

  -- an entry that tells what the item comes to over what is known tells what is meant
  pub tells-meant : (e : Kept) → Tells (g.sight i known) (name_at g i) (query_at g i) e → Tells (view_at g i) (name_at g i) (query_at g i) e
  tells-meant e t = record { named = t.named; outcome = met-meant e.outcome t.outcome; agrees = agrees-meant e.reads t.agrees; certified = t.certified }

  -- what is kept is stale where it differs
  pub differs-stale : Differs (kept_at g i) (g.sight i known) → stale g i ≡ true
  differs-stale d = at (kept_at g i) d
    where
      at : (k : Option Kept) → Differs k (g.sight i known) → is_stale k (view_at g i) ≡ true
      at None d = refl
      at (Some e) d = rw (differs-meant e.reads d.0 d.1) refl

  pub agrees-fresh : (e : Kept) → kept_at g i ≡ Some e → first_other e.reads (g.sight i known) ≡ checked.Agrees → stale g i ≡ false
  agrees-fresh e is a = rw (is, agrees-meant e.reads a) refl
