-- What one worker makes of an item over what it knows is what the item comes to behind all items before it.
use Rattle.std.proofs.Common.{◌≡◌, ℕ, zero, suc, replicate, ◌+◌, ◌<◌, List, [], ◌∷◌, ◌++◌, length, append_assoc, append-nil, get_or, Option, Some, None, refl, ap, sym, ◌∙◌, subst}
use Rattle.std.specs.Prelude.{slice_get, IfSome, MatchOption, All}
use Rattle.std.specs.FinMap.{get}
use Rattle.std.proofs.lemmas.List.{length-set, length-replicate}
use Rattle.std.proofs.lemmas.Option.{get_or_from_slice_get, slice_get-get_or}
use Rattle.std.proofs.lemmas.List.Elements.{All-append, All-push}
use Rattle.atomic_table.specs.Seated.{TableId}
use Rattle.site_base.specs.declared.faults.SiteFault.{SiteFault}
use Rattle.site_base.specs.declared.item_name.ItemName.{ItemName}
use Rattle.read_record.specs.declared.outcome.Outcome.{Outcome}
use Rattle.read_record.specs.declared.outcome.Agreement.{Agreement}
use Rattle.read_record.specs.declared.outcome.Agreement.TheVariants as agreement
use Rattle.read_record.specs.declared.outcome.Checked.{Checked}
use Rattle.read_record.specs.declared.outcome.Checked.TheVariants as checked
use Rattle.read_record.specs.Queries.{Query, View, Reply, Known, Missing, Reads}
use Rattle.read_record.specs.Records.{agreement_of, checked_at, first_other_from}
use Rattle.read_record.specs.Outcomes.{Page}
use Rattle.read_record.specs.Worlds.{Lawful}
use Rattle.read_record.specs.Entries.{Kept, Tells}
use Rattle.memo_table.specs.Entries.{Entries}
use Rattle.claim_table.specs.Seats.{Seated, finished, joined}
use Rattle.round_core.specs.Meant.{Given, nameless, name_at, query_at, kept_at, entry_of, outcome_of, outs_below, view_at}
use Rattle.round_core.specs.Facts.{AreMeant}
use Rattle.round_core.specs.Hands.{Hand, hand_outs, taken}
use Rattle.round_core.specs.Steps.{Differs}
use Rattle.round_core.proofs.MeantLaws.{Within, outs_at, outcome_met, tells-meant, differs-meant}
use Rattle.render_workers.specs.declared.answers.Why.{Why}
use Rattle.render_workers.specs.declared.part.Brought.{Brought}
use Rattle.render_workers.specs.declared.part.Part.{Part}
use Rattle.render_workers.specs.declared.part.Work.TheVariants as work
use Rattle.render_workers.specs.Whys.{other_at, first_other_key, reason_of, why_for, why_of}
use Rattle.render_workers.specs.Turns.{waits_for}
use Rattle.render_workers.specs.Brought.{IsFresh, new_name, names_of, items_of, Brings, IsPart}
use Rattle.render_workers.specs.Worked.{IsHand, StaysRight}
use Rattle.render_workers.proofs.WhyLaws.{why-differs}
use Rattle.render_workers.proofs.TryLaws.{of-some}

-- ---- one item

module _ (g : Given) (lawful : Lawful g.sight) (known : ℕ → Option Outcome) (right : AreMeant g known) (i : ℕ) where
  grown : Within (g.sight i known) (view_at g i)
  grown = lawful.grows i known (outs_below g i) (λ j o below e. outs_at g i j below ∙ ap outcome_of (sym (right j o e)) ∙ outcome_met o)

  key-meant : (rs : Reads) (n p : ℕ) → first_other_from n rs (g.sight i known) ≡ checked.Differs p → first_other_key rs (view_at g i) ≡ first_other_key rs (g.sight i known)
  key-meant [] n p h = cc
  key-meant (r ∷ rs) n p h = go (g.sight i known r.0) refl (key-meant rs (n + 1) p) h
    where
      pick : (a : Agreement) → (first_other_from (n + 1) rs (g.sight i known) ≡ checked.Differs p → first_other_key rs (view_at g i) ≡ first_other_key rs (g.sight i known))
          → checked_at a n (first_other_from (n + 1) rs (g.sight i known)) ≡ checked.Differs p → other_at a r.0 (first_other_key rs (view_at g i)) ≡ other_at a r.0 (first_other_key rs (g.sight i known))
      pick agreement.Same ih t = ih t
      pick agreement.Other ih t = refl
      pick (agreement.Needs j) ih t = refl

      go : (s : Reply) → g.sight i known r.0 ≡ s → (first_other_from (n + 1) rs (g.sight i known) ≡ checked.Differs p → first_other_key rs (view_at g i) ≡ first_other_key rs (g.sight i known))
          → checked_at (agreement_of s r.1) n (first_other_from (n + 1) rs (g.sight i known)) ≡ checked.Differs p
          → other_at (agreement_of (view_at g i r.0) r.1) r.0 (first_other_key rs (view_at g i)) ≡ other_at (agreement_of s r.1) r.0 (first_other_key rs (g.sight i known))
      go (Known w) e ih t = rw (grown r.0 w e) (pick (agreement_of (Known w) r.1) ih t)
      go (Missing j) e ih t = cc

  differs-at : (kept : Option Kept) → Differs kept (g.sight i known) → Differs kept (view_at g i)
  differs-at None d = tt
  differs-at (Some e) d = (d.0, differs-meant g lawful known right i e.reads d.0 d.1)

  -- a stale item has the reason that it has over what is known
  reason-meant : (kept : Option Kept) → Differs kept (g.sight i known) → reason_of kept (view_at g i) ≡ reason_of kept (g.sight i known)
  reason-meant None d = refl
  reason-meant (Some e) d = key-meant e.reads 0 d.0 d.1

  module _ (name : ItemName) (there : slice_get g.names i ≡ Some name) (e : Kept) (tells : Tells (g.sight i known) name (g.item name) e) where
    its-name : name ≡ name_at g i
    its-name = sym (get_or_from_slice_get g.names i name nameless there)

    its-kept : kept_at g i ≡ get g.entries name
    its-kept = ap (entry_of g.entries) there

    its-entry : Tells (view_at g i) (name_at g i) (query_at g i) e
    its-entry = tells-meant g lawful known right i e (subst (λ n. Tells (g.sight i known) n (g.item n) e) its-name tells)

    pub kept-right : get g.entries name ≡ Some e → IsFresh (kept_at g i) (view_at g i) (name_at g i) (query_at g i)
    kept-right is = (e, its-kept ∙ is, its-entry)

    pub new-right : (why : Why) → Differs (get g.entries name) (g.sight i known) → why ≡ why_for name (reason_of (get g.entries name) (g.sight i known))
        → Tells (view_at g i) (name_at g i) (query_at g i) e × (why_of (kept_at g i) (view_at g i) (name_at g i) ≡ why ∷ [])
    new-right why d is =
        let d' : Differs (kept_at g i) (g.sight i known) = subst (λ k. Differs k (g.sight i known)) (sym its-kept) d in
        let reason : reason_of (get g.entries name) (g.sight i known) ≡ reason_of (kept_at g i) (view_at g i) = ap (λ k. reason_of k (g.sight i known)) (sym its-kept) ∙ sym (reason-meant (kept_at g i) d') in
        (its-entry, why-differs (kept_at g i) (view_at g i) (name_at g i) why (differs-at (kept_at g i) d') (is ∙ (λ j. why_for (its-name j) (reason j))))

-- ---- what a worker brings back

module _ {M : Type 0} where
  items-append : (cs bs : List (Brought M)) → items_of (cs ++ bs) ≡ items_of cs ++ items_of bs
  items-append [] bs = refl
  items-append (a ∷ cs) bs = ap (λ xs. a.item ∷ xs) (items-append cs bs)

  brought-append : (cs bs : List (Brought M)) → names_of (cs ++ bs) ≡ names_of cs ++ names_of bs
  brought-append [] bs = refl
  brought-append (a ∷ cs) bs = ap (λ ns. new_name a.work ++ ns) (brought-append cs bs) ∙ sym (append_assoc (new_name a.work) (names_of cs) (names_of bs))

  module _ (g : Given) (table : TableId) where
    -- one item more is finished
    pub part-more : (s t : Seated) (tally tally' : List ItemName) (bs cs : List (Brought M)) (b : Brought M) → IsPart g table s tally bs → Brings g b
        → t ≡ finished b.item s → tally' ≡ tally ++ new_name b.work → cs ≡ bs ++ b ∷ [] → IsPart g table t tally' cs
    part-more s t tally tally' bs cs b part brings seat told more = record {
      at_table = ap (λ (x : Seated). x.table) seat ∙ part.at_table;
      done = ap (λ (x : Seated). x.done) seat ∙ ap (λ xs. xs ++ b.item ∷ []) part.done ∙ sym (items-append bs (b ∷ [])) ∙ ap items_of (sym more);
      named = told ∙ ap (λ ns. ns ++ new_name b.work) part.named ∙ ap (λ ns. names_of bs ++ ns) (sym (append-nil (new_name b.work))) ∙ sym (brought-append bs (b ∷ [])) ∙ ap names_of (sym more);
      right = subst (All (Brings g)) (sym more) (All-push (Brings g) bs b part.right brings);
    }

    -- two parts together
    pub part-joined : (s t u : Seated) (tally tally' all : List ItemName) (bs cs ds : List (Brought M)) → IsPart g table s tally bs → IsPart g table t tally' cs
        → u ≡ joined s t → all ≡ tally ++ tally' → ds ≡ bs ++ cs → IsPart g table u all ds
    part-joined s t u tally tally' all bs cs ds one two seat told more = record {
      at_table = ap (λ (x : Seated). x.table) seat ∙ one.at_table;
      done = ap (λ (x : Seated). x.done) seat ∙ (λ i. one.done i ++ two.done i) ∙ sym (items-append bs cs) ∙ ap items_of (sym more);
      named = told ∙ (λ i. one.named i ++ two.named i) ∙ sym (brought-append bs cs) ∙ ap names_of (sym more);
      right = subst (All (Brings g)) (sym more) (All-append (Brings g) bs cs one.right two.right);
    }

  module _ (g : Given) (lawful : Lawful g.sight) (table : TableId) (hand : Hand) (right : AreMeant g (hand_outs hand)) (i : ℕ) (within : i < length g.names)
      (s t : Seated) (tally tally' : List ItemName) (bs cs : List (Brought M)) (part : IsPart g table s tally bs) (seat : t ≡ finished i s) (e : Kept) where
    abbrev name : ItemName
    name = get_or g.names i nameless

    there : slice_get g.names i ≡ Some name
    there = slice_get-get_or g.names i nameless within

    pub part-kept : IfSome (slice_get g.names i) (λ n. (get g.entries n ≡ Some e) × Tells (g.sight i (hand_outs hand)) n (g.item n) e × (tally' ≡ tally))
        → cs ≡ bs ++ record { item = i; work = work.Kept } ∷ [] → IsPart g table t tally' cs
    part-kept h more =
        let k = of-some (λ n. (get g.entries n ≡ Some e) × Tells (g.sight i (hand_outs hand)) n (g.item n) e × (tally' ≡ tally)) (slice_get g.names i) name there h in
        part-more g table s t tally tally' bs cs (record { item = i; work = work.Kept }) part (within, kept-right g lawful (hand_outs hand) right i name there e k.1 k.0) seat (k.2 ∙ sym (append-nil tally)) more

    pub part-new : (why : Why) → IfSome (slice_get g.names i) (λ n. Differs (get g.entries n) (g.sight i (hand_outs hand)) × Tells (g.sight i (hand_outs hand)) n (g.item n) e
        × (why ≡ why_for n (reason_of (get g.entries n) (g.sight i (hand_outs hand)))) × (tally' ≡ tally ++ n ∷ []))
        → cs ≡ bs ++ record { item = i; work = work.New e why } ∷ [] → IsPart g table t tally' cs
    part-new why h more =
        let k = of-some (λ n. Differs (get g.entries n) (g.sight i (hand_outs hand)) × Tells (g.sight i (hand_outs hand)) n (g.item n) e
        × (why ≡ why_for n (reason_of (get g.entries n) (g.sight i (hand_outs hand)))) × (tally' ≡ tally ++ n ∷ [])) (slice_get g.names i) name there h in
        let told : tally' ≡ tally ++ why.name ∷ [] = k.3 ∙ ap (λ (w : Why). tally ++ w.name ∷ []) (sym k.2) in
        part-more g table s t tally tally' bs cs (record { item = i; work = work.New e why }) part (within, new-right g lawful (hand_outs hand) right i name there e k.1 why k.0 k.2) seat told more

  -- ---- what a worker learns

  -- while it waits, a worker finishes nothing
  pub learned : (g : Given) (table : TableId) (p q : Part M) (tally : List ItemName) (old new : Hand) → q ≡ p → p.tally ≡ tally → IsPart g table p.seat tally p.brought.items → IsHand g old → StaysRight g old new
      → IsPart g table q.seat q.tally q.brought.items × IsHand g new
  learned g table p q tally old new same told part hand stays = (
    subst (λ (r : Part M). IsPart g table r.seat r.tally r.brought.items) (sym same) (subst (λ t. IsPart g table p.seat t p.brought.items) (sym told) part),
    (stays.0 ∙ hand.0, stays.1 hand.1),
  )

-- a hand that knows nothing knows nothing wrong
pub knows-nothing : (g : Given) (hand : Hand) → hand ≡ replicate (length g.names) None → IsHand g hand
knows-nothing g hand is = (ap length is ∙ length-replicate (length g.names) None, λ i o e. absurd (nobody (length g.names) i o (ap (λ (h : Hand). hand_outs h i) (sym is) ∙ e)))
  where
    nobody : (n i : ℕ) (o : Outcome) → hand_outs (replicate n None) i ≡ Some o → ⊥
    nobody zero zero o e = cc
    nobody zero (suc i) o e = cc
    nobody (suc n) zero o e = cc
    nobody (suc n) (suc i) o e = nobody n i o e

-- a hand has the same room once it took an entry
pub takes : (c : Checked) (i : ℕ) (k : Kept) (old new : Hand) → new ≡ taken c i k old → length new ≡ length old
takes c i k old new is = ap length is ∙ same c
  where
    same : (c : Checked) → length (taken c i k old) ≡ length old
    same checked.Agrees = length-set old i (Some k)
    same (checked.Differs place) = refl
    same (checked.Needs j) = refl

pub takes_kept : (r : Option Checked) (P : Type 0) (Q R : Kept → Checked → Type 0) (i : ℕ) (old new : Hand) → MatchOption r (P × (new ≡ old)) (λ c. (k : Kept) × Q k c × R k c × (new ≡ taken c i k old)) → length new ≡ length old
takes_kept None P Q R i old new h = ap length h.1
takes_kept (Some c) P Q R i old new h = takes c i h.0 old new h.3

-- where an item has to wait, nothing was rendered
pub waits-same : (names : List ItemName) (i : ℕ) → i < length names → (view : View) (item : ItemName → Query SiteFault Page) (m : Entries) (j : ℕ) (before after : List ItemName)
    → IfSome (slice_get names i) (λ name. (waits_for (get m name) view (item name) ≡ Some j) × (after ≡ before)) → after ≡ before
waits-same names i within view item m j before after h =
    (of-some (λ name. (waits_for (get m name) view (item name) ≡ Some j) × (after ≡ before)) (slice_get names i) (get_or names i nameless) (slice_get-get_or names i nameless within) h).1
