-- Once all items are done, none is stale.
use Rattle.std.proofs.Common.{◌≡◌, ◌∙◌, ℕ, zero, suc, ◌+◌, ◌-◌, ◌<◌, ◌≤◌, Bool, true, false, cond, ◌||◌, List, [], ◌∷◌, ◌++◌, length, Option, Some, None, refl, ap, sym, subst, arith}
use Rattle.std.specs.Prelude.{eqb, slice_get}
use Rattle.std.specs.FinMap.{get}
use Rattle.std.proofs.lemmas.Option.{slice_get-get_or}
use Rattle.site_base.specs.declared.item_name.ItemName.{ItemName}
use Rattle.read_record.specs.declared.outcome.Outcome.{Outcome}
use Rattle.read_record.specs.Entries.{Kept}
use Rattle.read_record.specs.Queries.{interpret, reads_of}
use Rattle.read_record.proofs.RecordLaws.{reads-agree}
use Rattle.memo_table.specs.Entries.{of_names}
use Rattle.memo_table.specs.Names.{same_name, is_among}
use Rattle.memo_table.specs.SameNames.{same_name-eq, same_name-refl}
use Rattle.memo_table.proofs.EntryLaws.{get-of_names, get-with}
use Rattle.round_core.specs.Meant.{Given, nameless, name_at, query_at, kept_at, entry_of, outcome_of, outs_below, view_at, meant, is_other, is_stale}
use Rattle.read_record.specs.Outcomes.{is_done}
use Rattle.render_workers.specs.Rounds.{entry_at, entry_with, with_some, entries_below}
use Rattle.render_workers.specs.Whys.{why_at, whys_below}
use Rattle.render_workers.proofs.KeepLaws.{get-with_some}
use Rattle.render_workers.proofs.WhyLaws.{why-fresh}

among : (names : List ItemName) (i : ℕ) (name : ItemName) → slice_get names i ≡ Some name → is_among names name ≡ true
among [] i name h = cc
among (n ∷ names) zero name h =
    let same : n ≡ name = cc in
    ap (λ (m : ItemName). same_name name m || is_among names name) same ∙ ap (λ b. b || is_among names name) (same_name-refl name)
among (n ∷ names) (suc i) name h = ap (λ b. same_name name n || b) (among names i name h) ∙ or-true (same_name name n)
  where
    or-true : (b : Bool) → b || true ≡ true
    or-true true = refl
    or-true false = refl

-- an outcome of an item that is done
pub done-some : (known : Option Outcome) → is_done known ≡ true → (o : Outcome) × (known ≡ Some o)
done-some (Some o) h = (o, refl)
done-some None h = cc

module _ (g : Given) (differ : (i j : ℕ) → i < length g.names → slice_get g.names i ≡ slice_get g.names j → i ≡ j)
    (done : (i : ℕ) → i < length g.names → (o : Outcome) × (outcome_of (meant g i) ≡ Some o)) where
  -- the same items, over what is kept then
  abbrev after : Given
  after = record g { entries = of_names g.names (entries_below g (length g.names)) }

  outs-same : (n : ℕ) → outs_below after n ≡ outs_below g n
  unfolding outs_below
  outs-same zero = refl
  outs-same (suc n) = λ k j. cond (eqb j n) (outcome_of (interpret (g.sight n (outs-same n k)) (query_at g n))) (outs-same n k j)

  module _ (i : ℕ) (within : i < length g.names) where
    abbrev name : ItemName
    name = name_at g i

    there : slice_get g.names i ≡ Some name
    there = slice_get-get_or g.names i nameless within

    abbrev own : Kept
    own = record { name = name; reads = reads_of (view_at g i) [] (query_at g i); outcome = (done i within).0 }

    entry-is : entry_at g i ≡ Some own
    entry-is = ap (λ o. entry_with o name (reads_of (view_at g i) [] (query_at g i))) (done i within).1

    apart : (m : ℕ) → i < m → m < length g.names → same_name name (name_at g m) ≡ false
    apart m l h = at (same_name name (name_at g m)) refl
      where
        at : (b : Bool) → same_name name (name_at g m) ≡ b → b ≡ false
        at true s =
            let one : m ≡ i = differ m i h (slice_get-get_or g.names m nameless h ∙ ap Some (sym (same_name-eq name (name_at g m) s)) ∙ sym there) in
            absurd (omega arith)
        at false s = refl

    kept-own : get (entries_below g (suc i)) name ≡ Some own
    unfolding entries_below
    kept-own =
        ap (λ o. get (with_some o (entries_below g i)) name) entry-is ∙ get-with (entries_below g i) name own name
        ∙ ap (λ b. cond b (Some own) (get (entries_below g i) name)) (same_name-refl name)

    kept-next : (m : ℕ) → i < m → m < length g.names → get (entries_below g (suc m)) name ≡ get (entries_below g m) name
    unfolding entries_below
    kept-next m l h = get-with_some (outcome_of (meant g m)) (name_at g m) (reads_of (view_at g m) [] (query_at g m)) (entries_below g m) name (apart m l h)

    kept-later : (d : ℕ) → suc i + d ≤ length g.names → get (entries_below g (suc i + d)) name ≡ Some own
    kept-later zero h = let e : suc i + 0 ≡ suc i = omega arith in subst (λ n. get (entries_below g n) name ≡ Some own) (sym e) kept-own
    kept-later (suc d) h =
        let e : suc i + suc d ≡ suc (suc i + d) = omega arith in
        let l : i < suc i + d = omega arith in
        let w : suc i + d < length g.names = omega (arith, h, e) in
        let before : suc i + d ≤ length g.names = omega (arith, w) in
        subst (λ n. get (entries_below g n) name ≡ Some own) (sym e) (kept-next (suc i + d) l w ∙ kept-later d before)

    kept-last : get (entries_below g (length g.names)) name ≡ Some own
    kept-last =
        let rest : ℕ = length g.names - suc i in
        let e : suc i + rest ≡ length g.names = omega (arith, within) in
        subst (λ n. get (entries_below g n) name ≡ Some own) e (kept-later rest (omega (arith, e)))

    kept-is : kept_at after i ≡ Some own
    kept-is =
        ap (entry_of after.entries) there ∙ get-of_names g.names (entries_below g (length g.names)) name
        ∙ ap (λ b. cond b (get (entries_below g (length g.names)) name) None) (among g.names i name there) ∙ kept-last

    fresh-here : is_stale (kept_at after i) (view_at after i) ≡ false
    fresh-here = (λ k. is_stale (kept-is k) (g.sight i (outs-same i k))) ∙ ap is_other (reads-agree (view_at g i) [] (query_at g i) refl)

    pub fresh-at : why_at after i ≡ []
    fresh-at = why-fresh (kept_at after i) (view_at after i) name fresh-here

  pub fresh-below : (m : ℕ) → m ≤ length g.names → whys_below after m ≡ []
  unfolding whys_below
  fresh-below zero l = refl
  fresh-below (suc m) l =
      let within : m < length g.names = omega (arith, l) in
      let before : m ≤ length g.names = omega (arith, l) in
      λ k. fresh-below m before k ++ fresh-at m within k
