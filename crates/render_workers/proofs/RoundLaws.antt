-- A round, item by item.
use Rattle.std.proofs.Common.{◌≡◌, ℕ, zero, suc, ◌+◌, ◌<◌, ◌≤◌, List, [], ◌++◌, length, get_or, drop, add-one, append_assoc, append-nil, Some, None, Ok, Err, refl, ap, sym, ◌∙◌, subst, arith}
use Rattle.std.proofs.lemmas.List.{drop_all}
use Rattle.std.specs.Prelude.{slice_get, IfSome}
use Rattle.std.specs.FinMap.{get}
use Rattle.std.proofs.lemmas.Option.{get_or_from_slice_get, slice_get-get_or}
use Rattle.site_base.specs.declared.faults.SiteFault.{SiteFault}
use Rattle.site_base.specs.declared.item_name.ItemName.{ItemName}
use Rattle.read_record.specs.declared.outcome.Outcome.{Outcome}
use Rattle.read_record.specs.Queries.{Gave, Failed, interpret}
use Rattle.read_record.specs.Outcomes.{is_done, met_of}
use Rattle.read_record.specs.Entries.{Kept}
use Rattle.memo_table.specs.Entries.{Entries, with_entry, of_names}
use Rattle.round_core.specs.Meant.{Given, nameless, name_at, kept_at, entry_of, outcome_of, outs_below, view_at, meant}
use Rattle.round_core.proofs.MeantLaws.{outcome_met, outs_at}
use Rattle.render_workers.specs.declared.answers.Round.{Round}
use Rattle.render_workers.specs.declared.answers.RoundError.{RoundError}
use Rattle.render_workers.specs.declared.answers.RoundError.TheVariants as error
use Rattle.render_workers.specs.declared.progress.Progress.{Progress}
use Rattle.render_workers.specs.Folds.{counted, after_count, fold_from, fold_of, AreDone}
use Rattle.render_workers.specs.Whys.{why_of, why_at, whys_below, why_names}
use Rattle.render_workers.specs.Rounds.{entry_over, entry_at, with_some, entries_below, IsWhole, IsStopped, IsRound}
use Rattle.render_workers.specs.Turns.{Turns, Ends, IsTurn}
use Rattle.render_workers.proofs.TryLaws.{of-some}
use Rattle.render_workers.proofs.FoldLaws.{length-push, drop-next, known-push, counted-done, done-push, fold-next, fold-end}
use Rattle.render_workers.proofs.WhyLaws.{names-append}
use Rattle.render_workers.proofs.KeepLaws.{tells-entry, kept-before}
use Rattle.render_workers.proofs.FreshLaws.{done-some, fresh-below}

-- what holds once the items below i were kept or rendered
pub record SoFar (g : Given) (fixed i : ℕ) (p : Progress) (memo : Entries) (before after : List ItemName) : Type 0 where
  pub count : length p.outs ≡ i
  pub fold : fold_of g fixed ≡ fold_from g (drop i g.names) p.outs p.bytes
  pub known : slice_get p.outs ≡ outs_below g i
  pub done : AreDone i (slice_get p.outs)
  pub why : p.why ≡ whys_below g i
  pub kept : memo ≡ entries_below g i
  pub tally : after ≡ before ++ why_names (whys_below g i)

pub start : (g : Given) (p : Progress) (before : List ItemName) → p.outs ≡ [] → p.why ≡ [] → SoFar g p.bytes 0 p g.entries before before
unfolding outs_below whys_below entries_below
start g p before none nobody = record {
  count = ap length none;
  fold = ap (λ os. fold_from g g.names os p.bytes) (sym none);
  known = λ i j. (ap (λ (os : List Outcome). slice_get os j) none ∙ nothing j) i;
  done = λ j l. absurd (omega arith);
  why = nobody;
  kept = refl;
  tally = sym (append-nil before);
}
  where
    nothing : (j : ℕ) → slice_get {X = Outcome} [] j ≡ None
    nothing zero = refl
    nothing (suc j) = refl

module _ (g : Given) (differ : (i j : ℕ) → i < length g.names → slice_get g.names i ≡ slice_get g.names j → i ≡ j) (fixed i : ℕ) (name : ItemName) (there : slice_get g.names i ≡ Some name)
    (p : Progress) (kept : Entries) (before after : List ItemName) (so_far : SoFar g fixed i p kept before after) where
  pub view : g.sight i (slice_get p.outs) ≡ view_at g i
  view = ap (g.sight i) so_far.known

  pub named : name ≡ name_at g i
  named = sym (get_or_from_slice_get g.names i name nameless there)

  meant-here : interpret (g.sight i (slice_get p.outs)) (g.item name) ≡ meant g i
  meant-here = λ j. interpret (view j) (g.item (named j))

  entry-here : entry_over (g.sight i (slice_get p.outs)) name (g.item name) ≡ entry_at g i
  entry-here = λ j. entry_over (view j) (named j) (g.item (named j))

  pub kept-here : get kept name ≡ kept_at g i
  kept-here = ap (λ m. get m name) so_far.kept ∙ kept-before g differ i name there i (omega arith) ∙ ap (entry_of g.entries) (sym there)

  why-here : why_of (get kept name) (g.sight i (slice_get p.outs)) name ≡ why_at g i
  why-here = λ j. why_of (kept-here j) (view j) (named j)

  whys-next : whys_below g i ++ why_of (get kept name) (g.sight i (slice_get p.outs)) name ≡ whys_below g (suc i)
  unfolding whys_below
  whys-next = ap (λ ws. whys_below g i ++ ws) why-here

  pub tally-next : (after' : List ItemName) → after' ≡ after ++ why_names (why_of (get kept name) (g.sight i (slice_get p.outs)) name) → after' ≡ before ++ why_names (whys_below g (suc i))
  tally-next after' e =
      let ws = why_of (get kept name) (g.sight i (slice_get p.outs)) name in
      e ∙ ap (λ ns. ns ++ why_names ws) so_far.tally ∙ append_assoc before (why_names (whys_below g i)) (why_names ws)
      ∙ ap (λ ns. before ++ ns) (sym (names-append (whys_below g i) ws) ∙ ap why_names whys-next)

  entries-next : (e : Kept) → entry_at g i ≡ Some e → with_entry e (entries_below g i) ≡ entries_below g (suc i)
  unfolding entries_below
  entries-next e h = ap (λ o. with_some o (entries_below g i)) (sym h)

  pub fold-here : (o : Outcome) → interpret (g.sight i (slice_get p.outs)) (g.item name) ≡ met_of o → fold_of g fixed ≡ after_count (counted o name p.bytes) o p.outs (fold_from g (drop (suc i) g.names))
  fold-here o met =
      so_far.fold ∙ ap (λ ns. fold_from g ns p.outs p.bytes) (drop-next g.names i name there)
      ∙ fold-next g name (drop (suc i) g.names) p.outs p.bytes o (ap (λ n. interpret (g.sight n (slice_get p.outs)) (g.item name)) so_far.count ∙ met)

  -- with one item more
  goes-suc : (q : Progress) (kept' : Entries) (after' : List ItemName) → Turns (g.sight i (slice_get p.outs)) name (g.item name) p q kept kept' after after' → SoFar g fixed (suc i) q kept' before after'
  goes-suc q kept' after' t =
      let o = t.entry.outcome in
      let came : outcome_of (meant g i) ≡ Some o = ap outcome_of (sym meant-here ∙ t.tells.outcome) ∙ outcome_met o in
      let entry : entry_at g i ≡ Some t.entry = sym entry-here ∙ tells-entry (g.sight i (slice_get p.outs)) name (g.item name) t.entry t.tells in
      let outs = t.outs in
      record {
        count = ap length outs ∙ length-push p.outs o ∙ ap suc so_far.count;
        fold = fold-here o t.tells.outcome ∙ ap (λ r. after_count r o p.outs (fold_from g (drop (suc i) g.names))) t.bytes ∙ ap (λ os. fold_from g (drop (suc i) g.names) os q.bytes) (sym outs);
        known = ap slice_get outs ∙ known-push g i p.outs o so_far.count so_far.known came;
        done = subst (λ os. AreDone (suc i) (slice_get os)) (sym outs) (done-push i p.outs o so_far.count so_far.done (counted-done o name p.bytes q.bytes t.bytes));
        why = t.why ∙ ap (λ ws. ws ++ why_of (get kept name) (g.sight i (slice_get p.outs)) name) so_far.why ∙ whys-next;
        kept = t.kept ∙ ap (with_entry t.entry) so_far.kept ∙ entries-next t.entry entry;
        tally = tally-next after' t.tally;
      }

  pub goes : (q : Progress) (kept' : Entries) (after' : List ItemName) → Turns (g.sight i (slice_get p.outs)) name (g.item name) p q kept kept' after after' → SoFar g fixed (i + 1) q kept' before after'
  goes q kept' after' t = subst (λ n. SoFar g fixed n q kept' before after') (sym (add-one i)) (goes-suc q kept' after' t)

  -- the round ends with a fault
  unfoldable pub stops : (fault : SiteFault) (kept' : Entries) (after' : List ItemName) → Ends (g.sight i (slice_get p.outs)) name (g.item name) fault p kept kept' after after' → IsStopped g fixed fault kept' before after'
  stops fault kept' after' e = record {
    place = i;
    fold = fold-here e.outcome e.met ∙ ap (λ r. after_count r e.outcome p.outs (fold_from g (drop (suc i) g.names))) e.counts ∙ ap (λ n. Failed (n, fault)) so_far.count;
    kept = e.kept ∙ so_far.kept;
    tally = tally-next after' e.tally;
  }

-- all items are done
pub whole : (g : Given) → ((i j : ℕ) → i < length g.names → slice_get g.names i ≡ slice_get g.names j → i ≡ j) → (fixed n : ℕ) (p : Progress) (kept kept' : Entries) (before after : List ItemName) (round : Round) → n ≡ length g.names → SoFar g fixed n p kept before after
    → round.outs ≡ p.outs → round.why ≡ p.why → round.reused + length p.why ≡ length g.names → kept' ≡ of_names g.names kept → IsWhole g fixed round kept' before after
whole g differ fixed n p kept kept' before after round all s outs why reused left =
    let done : (i : ℕ) → i < length g.names → (o : Outcome) × (outcome_of (meant g i) ≡ Some o) = λ i within.
    let here : i < n = omega (arith, within, all) in
    done-some (outcome_of (meant g i)) (ap is_done (sym (outs_at g n i here) ∙ (λ k. sym s.known k i)) ∙ s.done i here) in
    let kept_is : kept' ≡ of_names g.names (entries_below g (length g.names)) = left ∙ ap (of_names g.names) (s.kept ∙ ap (entries_below g) all) in
    let end : length g.names ≤ length g.names = omega arith in
    let fold : fold_of g fixed ≡ Gave p.outs = s.fold ∙ ap (λ ns. fold_from g ns p.outs p.bytes) (ap (λ (k : ℕ). drop k g.names) all ∙ drop_all (length g.names) g.names end) ∙ fold-end g p.outs p.bytes in
    let whys : round.why ≡ whys_below g (length g.names) = why ∙ s.why ∙ ap (whys_below g) all in
    record {
      fold = fold ∙ ap Gave (sym outs);
      each = ap length outs ∙ s.count ∙ all;
      done = subst (λ os. AreDone (length g.names) (slice_get os)) (sym outs) (subst (λ k. AreDone k (slice_get p.outs)) all s.done);
      why = whys;
      reused = ap (λ ws. round.reused + length ws) why ∙ reused;
      kept = kept_is;
      tally = s.tally ∙ ap (λ ws. before ++ why_names ws) (ap (whys_below g) all ∙ sym whys);
      fresh = ap (λ (m : Entries). whys_below (record g { entries = m }) (length g.names)) kept_is ∙ fresh-below g differ done (length g.names) end;
    }

-- an item behind which the round does not go on
pub ended : (g : Given) (differ : (i j : ℕ) → i < length g.names → slice_get g.names i ≡ slice_get g.names j → i ≡ j) (fixed i : ℕ) (name : ItemName) → slice_get g.names i ≡ Some name
    → (p q : Progress) (kept kept' : Entries) (before after after' : List ItemName) (error : RoundError) → SoFar g fixed i p kept before after
    → IsTurn (g.sight i (slice_get p.outs)) name (g.item name) (Err error) p q kept kept' after after' → IsRound g fixed (Err error) kept' before after'
ended g differ fixed i name there p q kept kept' before after after' (error.Fault f) so_far e = stops g differ fixed i name there p kept before after so_far f kept' after' e
ended g differ fixed i name there p q kept kept' before after after' error.Memory so_far e = tt

module _ (g : Given) (differ : (i j : ℕ) → i < length g.names → slice_get g.names i ≡ slice_get g.names j → i ≡ j) (fixed i : ℕ) (within : i < length g.names)
    (p q : Progress) (kept kept' : Entries) (before after after' : List ItemName) (so_far : SoFar g fixed i p kept before after) where
  there : slice_get g.names i ≡ Some (get_or g.names i nameless)
  there = slice_get-get_or g.names i nameless within

  pub went_on : (u : Unit {0}) → IfSome (slice_get g.names i) (λ name. IsTurn (g.sight i (slice_get p.outs)) name (g.item name) (Ok u) p q kept kept' after after') → SoFar g fixed (i + 1) q kept' before after'
  went_on u h =
      goes g differ fixed i (get_or g.names i nameless) there p kept before after so_far q kept' after'
      (of-some (λ name. IsTurn (g.sight i (slice_get p.outs)) name (g.item name) (Ok u) p q kept kept' after after') (slice_get g.names i) (get_or g.names i nameless) there h)

  pub ended_at : (error : RoundError) → IfSome (slice_get g.names i) (λ name. IsTurn (g.sight i (slice_get p.outs)) name (g.item name) (Err error) p q kept kept' after after') → IsRound g fixed (Err error) kept' before after'
  ended_at error h =
      ended g differ fixed i (get_or g.names i nameless) there p q kept kept' before after after' error so_far
      (of-some (λ name. IsTurn (g.sight i (slice_get p.outs)) name (g.item name) (Err error) p q kept kept' after after') (slice_get g.names i) (get_or g.names i nameless) there h)
