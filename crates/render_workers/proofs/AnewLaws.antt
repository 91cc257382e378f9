-- A round that keeps nothing.
use Rattle.std.proofs.Common.{◌≡◌, ℕ, ◌<◌, List, [], ◌∷◌, ◌++◌, length, get_or, Option, Some, None, Result, Ok, Err, refl, ap, sym, ◌∙◌}
use Rattle.std.specs.Prelude.{IfSome, slice_get}
use Rattle.std.specs.FinMap.{empty, get, get-empty}
use Rattle.std.proofs.lemmas.Option.{slice_get-get_or}
use Rattle.site_base.specs.declared.faults.SiteFault.{SiteFault}
use Rattle.site_base.specs.declared.item_name.ItemName.{ItemName}
use Rattle.read_record.specs.declared.outcome.Outcome.{Outcome}
use Rattle.read_record.specs.declared.outcome.Outcome.TheVariants.{Done, Fault}
use Rattle.read_record.specs.Queries.{Query, View, Gave, Failed, Missed, Met, WaitsFor, interpret, reads_of, run, ran}
use Rattle.read_record.specs.Outcomes.{Page, met_of}
use Rattle.read_record.specs.Entries.{Kept}
use Rattle.read_record.proofs.QueryLaws.{run_needs, run-untraced}
use Rattle.memo_table.specs.Entries.{Entries, with_entry}
use Rattle.memo_table.specs.Names.{name_cmp}
use Rattle.round_core.specs.Meant.{Given, entry_of, nameless}
use Rattle.render_workers.specs.declared.answers.Why.{Why}
use Rattle.render_workers.specs.declared.answers.RoundError.{RoundError}
use Rattle.render_workers.specs.declared.answers.RoundError.TheVariants as error
use Rattle.render_workers.specs.declared.progress.Progress.{Progress}
use Rattle.render_workers.specs.Turns.{IsAddedNew, IsAddedRendered, IsTurn, IsTurnAnew}
use Rattle.render_workers.specs.Whys.{why_for, why_of}
use Rattle.render_workers.proofs.FoldLaws.{MissesNothing, needs-none}
use Rattle.render_workers.proofs.KeepLaws.{own-tells}
use Rattle.render_workers.proofs.RoundLaws.{SoFar, kept-here}
use Rattle.render_workers.proofs.TryLaws.{if-some, of-some, turn-new}

-- ---- a render

-- what a run came to that keeps no reads
pub ran_to : (view : View) (q : Query SiteFault Page) (o : Outcome) → run view None q ≡ ran (met_of o) None → interpret view q ≡ met_of o
ran_to view q o h = at (interpret view q) o (sym (run-untraced view q) ∙ h)
  where
    at : (m : Met SiteFault Page) (o : Outcome) → ran m None ≡ ran (met_of o) None → m ≡ met_of o
    at (Gave page) (Done content output) e = cc
    at (Gave page) (Fault f) e = cc
    at (Failed f) (Done content output) e = cc
    at (Failed f) (Fault f') e = cc
    at (Missed k j) (Done content output) e = cc
    at (Missed k j) (Fault f) e = cc

-- where the view misses nothing, no item has to be done first
pub needs_nobody : (names : List ItemName) (i : ℕ) → i < length names → (view : View) (item : ItemName → Query SiteFault Page) (j : ℕ) → MissesNothing view → IfSome (slice_get names i) (λ name. run view None (item name) ≡ WaitsFor j None) → ⊥
needs_nobody names i within view item j all h =
    let n = get_or names i nameless in
    let waits = of-some (λ name. run view None (item name) ≡ WaitsFor j None) (slice_get names i) n (slice_get-get_or names i nameless within) h in
    needs-none view all (item n) j (run_needs view None None (item n) j waits)

-- ---- one item

module _ (view : View) (name : ItemName) (query : Query SiteFault Page) (o : Outcome) (met : interpret view query ≡ met_of o) (old new : Progress) (why : Why) (is : why ≡ why_for name None) where
  abbrev own : Kept
  own = record { name = name; reads = reads_of view [] query; outcome = o }

  -- its entry joins those that are kept, whatever they are
  joins : (kept : Entries) (r : Result (Unit {0}) RoundError) → IsAddedRendered name o why r old new → (kept' : Entries) × IsAddedNew own why r old new kept kept'
  joins kept (Ok u) h = (with_entry own kept, record { bytes = h.bytes; outs = h.outs; why = h.why; kept = refl })
  joins kept (Err (error.Fault f)) h = (kept, (h, refl))
  joins kept (Err error.Memory) h = (kept, tt)

  pub turn-anew : (before after : List ItemName) (r : Result (Unit {0}) RoundError) → after ≡ before ++ name ∷ [] → IsAddedRendered name o why r old new → IsTurnAnew view name query r old new before after
  turn-anew before after r tallied added = λ kept none.
      let told : why_of (get kept name) view name ≡ why ∷ [] = ap (λ k. why_of k view name) none ∙ ap (λ (w : Why). w ∷ []) (sym is) in
      let j = joins kept r added in
      (j.0, turn-new view name query own (own-tells view name query o met) old new kept before after why j.0 r told (tallied ∙ ap (λ (w : Why). before ++ w.name ∷ []) (sym is)) j.1)

-- the turn of an item at its place, from its render
pub rendered_turn : (at : Option ItemName) (name : ItemName) → at ≡ Some name → (view : View) (item : ItemName → Query SiteFault Page) (o : Outcome) (old new : Progress) (why : Why) → why ≡ why_for name None → (before after : List ItemName) (r : Result (Unit {0}) RoundError)
    → IfSome at (λ name. run view None (item name) ≡ ran (met_of o) None) → IfSome at (λ name. after ≡ before ++ name ∷ []) → IsAddedRendered name o why r old new → IfSome at (λ name. IsTurnAnew view name (item name) r old new before after)
rendered_turn at name is view item o old new why why_is before after r ran_is tallied added =
    let met = ran_to view (item name) o (of-some (λ name. run view None (item name) ≡ ran (met_of o) None) at name is ran_is) in
    if-some (λ name. IsTurnAnew view name (item name) r old new before after) at name is
    (turn-anew view name (item name) o met old new why why_is before after r (of-some (λ name. after ≡ before ++ name ∷ []) at name is tallied) added)

-- ---- a round

module _ (g : Given) (nothing : g.entries ≡ empty) (differ : (i j : ℕ) → i < length g.names → slice_get g.names i ≡ slice_get g.names j → i ≡ j) (fixed i : ℕ) (within : i < length g.names)
    (p q : Progress) (kept : Entries) (before after after' : List ItemName) (so_far : SoFar g fixed i p kept before after) where
  -- the turn of an item of which nothing is kept
  pub turned : (r : Result (Unit {0}) RoundError) → IfSome (slice_get g.names i) (λ name. IsTurnAnew (g.sight i (slice_get p.outs)) name (g.item name) r p q after after')
      → (kept' : Entries) × IfSome (slice_get g.names i) (λ name. IsTurn (g.sight i (slice_get p.outs)) name (g.item name) r p q kept kept' after after')
  turned r h =
      let name = get_or g.names i nameless in
      let there : slice_get g.names i ≡ Some name = slice_get-get_or g.names i nameless within in
      let none : get kept name ≡ None = kept-here g differ fixed i name there p kept before after so_far ∙ ap (entry_of g.entries) there ∙ ap (λ (m : Entries). get m name) nothing ∙ get-empty name_cmp name in
      let turn = of-some (λ name. IsTurnAnew (g.sight i (slice_get p.outs)) name (g.item name) r p q after after') (slice_get g.names i) name there h kept none in
      (turn.0, if-some (λ name. IsTurn (g.sight i (slice_get p.outs)) name (g.item name) r p q kept turn.0 after after') (slice_get g.names i) name there turn.1)
