-- What a hand knows once an entry was taken.
use Rattle.std.proofs.Common.{◌≡◌, ◌⊎◌, inl, inr, ℕ, set, Option, Some, None, refl, ap, sym, ◌∙◌, subst}
use Rattle.std.specs.Prelude.{slice_get}
use Rattle.std.proofs.lemmas.Option.{get_or_from_slice_get}
use Rattle.read_record.specs.declared.outcome.Outcome.{Outcome}
use Rattle.read_record.specs.declared.outcome.Checked.{Checked}
use Rattle.read_record.specs.declared.outcome.Checked.TheVariants as checked
use Rattle.read_record.specs.Records.{first_other, Certifies}
use Rattle.read_record.specs.Outcomes.{met_of}
use Rattle.read_record.specs.Worlds.{Lawful}
use Rattle.read_record.specs.Entries.{Kept}
use Rattle.read_record.proofs.PlaceLaws.{get-set}
use Rattle.read_record.proofs.RecordLaws.{carried}
use Rattle.round_core.specs.Meant.{Given, nameless, name_at, query_at, meant}
use Rattle.round_core.specs.Facts.{AreMeant}
use Rattle.round_core.specs.Hands.{Hand, flat, outcome_in, hand_outs, taken}
use Rattle.round_core.proofs.MeantLaws.{met-meant}

found-in : (o : Option (Option Kept)) (x : Outcome) → outcome_in (flat o) ≡ Some x → (k : Kept) × (o ≡ Some (Some k)) × (k.outcome ≡ x)
found-in (Some (Some k)) x h = (k, refl, cc)
found-in (Some None) x h = cc
found-in None x h = cc

module _ (g : Given) (lawful : Lawful g.sight) (hand : Hand) (i : ℕ) (e : Kept) (named : slice_get g.names i ≡ Some e.name)
    (certified : Certifies e.reads (g.item e.name) (met_of e.outcome)) (right : AreMeant g (hand_outs hand)) where
  entry-right : first_other e.reads (g.sight i (hand_outs hand)) ≡ checked.Agrees → met_of e.outcome ≡ meant g i
  entry-right agrees =
      let at : name_at g i ≡ e.name = get_or_from_slice_get g.names i e.name nameless named in
      let there : Certifies e.reads (query_at g i) (met_of e.outcome) = subst (λ n. Certifies e.reads (g.item n) (met_of e.outcome)) (sym at) certified in
      sym (met-meant g lawful (hand_outs hand) right i e.outcome (carried e.reads (g.sight i (hand_outs hand)) agrees (query_at g i) (met_of e.outcome) there))

  -- where all that was known is what is meant, so is all that is known once an entry was taken
  pub stays-right : (c : Checked) → c ≡ first_other e.reads (g.sight i (hand_outs hand)) → AreMeant g (hand_outs (taken c i e hand))
  stays-right (checked.Differs p) h j o found = right j o found
  stays-right (checked.Needs k) h j o found = right j o found
  stays-right checked.Agrees h j o found = go (found-in (slice_get (set hand i (Some e)) j) o found)
    where
      other : (k : Kept) → slice_get hand j ≡ Some (Some k) → k.outcome ≡ o → met_of o ≡ meant g j
      other k s q = right j o (ap (λ x. outcome_in (flat x)) s ∙ ap Some q)

      this : (k : Kept) → j ≡ i → Some e ≡ Some k → k.outcome ≡ o → met_of o ≡ meant g j
      this k s t q = let u : e ≡ k = cc in ap met_of (sym q) ∙ ap (λ (y : Kept). met_of y.outcome) (sym u) ∙ entry-right (sym h) ∙ ap (meant g) (sym s)

      go : (k : Kept) × (slice_get (set hand i (Some e)) j ≡ Some (Some k)) × (k.outcome ≡ o) → met_of o ≡ meant g j
      go p = at (get-set hand i j (Some e) (Some p.0) p.1)
        where
          at : (slice_get hand j ≡ Some (Some p.0)) ⊎ ((j ≡ i) × (Some e ≡ Some p.0)) → met_of o ≡ meant g j
          at (inl s) = other p.0 s p.2
          at (inr s) = this p.0 s.0 s.1 p.2
