-- The certified entries, and what is kept with them.
use Rattle.std.proofs.Common.{◌≡◌, ℕ, zero, suc, ◌<◌, ◌≤◌, Bool, true, false, cond, [], length, Option, Some, None, refl, ap, sym, ◌∙◌, subst, arith}
use Rattle.std.specs.Prelude.{slice_get}
use Rattle.std.specs.FinMap.{get, insert}
use Rattle.std.proofs.lemmas.Option.{slice_get_within, slice_get-get_or}
use Rattle.site_base.specs.declared.faults.SiteFault.{SiteFault}
use Rattle.site_base.specs.declared.item_name.ItemName.{ItemName}
use Rattle.read_record.specs.declared.outcome.Outcome.{Outcome}
use Rattle.read_record.specs.Queries.{Query, View, interpret, Reads, reads_of}
use Rattle.read_record.specs.Records.{IsMade, Certifies}
use Rattle.read_record.specs.Outcomes.{Page, met_of}
use Rattle.read_record.specs.Entries.{Kept, Tells}
use Rattle.read_record.proofs.QueryLaws.{certifies}
use Rattle.read_record.proofs.RecordLaws.{reads-agree}
use Rattle.read_record.proofs.TraceLaws.{outcome-made}
use Rattle.memo_table.specs.Names.{same_name}
use Rattle.memo_table.specs.SameNames.{same_name-eq}
use Rattle.memo_table.specs.Entries.{Entries, with_entry}
use Rattle.memo_table.proofs.EntryLaws.{same, get-with}
use Rattle.round_core.specs.Meant.{Given, nameless, name_at, query_at, outcome_of, view_at, meant}
use Rattle.round_core.proofs.MeantLaws.{outcome_met}
use Rattle.round_core.proofs.OneWay.{one-entry}
use Rattle.render_workers.specs.Rounds.{entry_with, entry_over, with_some, entries_below}

-- what an item's query gives over a view, with all that it reads, tells that
pub own-tells : (view : View) (name : ItemName) (q : Query SiteFault Page) (o : Outcome) → interpret view q ≡ met_of o → Tells view name q (record { name = name; reads = reads_of view [] q; outcome = o })
own-tells view name q o met =
    let made : IsMade (interpret view q) = subst IsMade (sym met) (outcome-made o) in
    let certified : Certifies (reads_of view [] q) q (met_of o) = subst (λ m. Certifies (reads_of view [] q) q m) met (certifies view q made) in
    record { named = refl; outcome = met; agrees = reads-agree view [] q refl; certified = certified }

-- an entry that is certified, and tells what an item's query gives over a view with which its record agrees, is the item's entry over it
pub tells-entry : (view : View) (name : ItemName) (q : Query SiteFault Page) (e : Kept) → Tells view name q e → entry_over view name q ≡ Some e
tells-entry view name q e t =
    let own : Kept = record { name = name; reads = reads_of view [] q; outcome = e.outcome } in
    ap (λ o. entry_with o name (reads_of view [] q)) (ap outcome_of t.outcome ∙ outcome_met e.outcome) ∙ ap Some (one-entry view name q own e (own-tells view name q e.outcome t.outcome) t)

-- what is kept already stays as it is
pub kept-same : (m : Entries) (e : Kept) → get m e.name ≡ Some e → with_entry e m ≡ m
kept-same m e h = same (insert m e.name e) m (λ q. get-with m e.name e q ∙ at q (same_name q e.name) refl)
  where
    at : (q : ItemName) (b : Bool) → same_name q e.name ≡ b → cond b (Some e) (get m q) ≡ get m q
    at q true s = sym (ap (get m) (same_name-eq q e.name s) ∙ h)
    at q false s = refl

pub get-with_some : (o : Option Outcome) (name : ItemName) (reads : Reads) (m : Entries) (q : ItemName) → same_name q name ≡ false → get (with_some (entry_with o name reads) m) q ≡ get m q
get-with_some (Some outcome) name reads m q s = let e : Kept = record { name = name; reads = reads; outcome = outcome } in get-with m name e q ∙ ap (λ b. cond b (Some e) (get m q)) s
get-with_some None name reads m q s = refl

module _ (g : Given) (differ : (i j : ℕ) → i < length g.names → slice_get g.names i ≡ slice_get g.names j → i ≡ j) (i : ℕ) (name : ItemName) (there : slice_get g.names i ≡ Some name) where
  apart : (m : ℕ) → m < i → same_name name (name_at g m) ≡ false
  apart m l = at (same_name name (name_at g m)) refl
    where
      at : (b : Bool) → same_name name (name_at g m) ≡ b → b ≡ false
      at true s =
          let bound = slice_get_within g.names i name there in
          let within : m < length g.names = omega arith in
          let one : m ≡ i = differ m i within (slice_get-get_or g.names m nameless within ∙ ap Some (sym (same_name-eq name (name_at g m) s)) ∙ sym there) in
          absurd (omega arith)
      at false s = refl

  -- the entries of other items leave what is kept of an item as it was
  pub kept-before : (m : ℕ) → m ≤ i → get (entries_below g m) name ≡ get g.entries name
  unfolding entries_below
  kept-before zero l = refl
  kept-before (suc m) l = get-with_some (outcome_of (meant g m)) (name_at g m) (reads_of (view_at g m) [] (query_at g m)) (entries_below g m) name (apart m (omega arith)) ∙ kept-before m (omega arith)
