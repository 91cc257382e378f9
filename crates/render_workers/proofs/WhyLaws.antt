-- Why items are rendered anew.
use Rattle.std.proofs.Common.{◌≡◌, ℕ, zero, suc, ◌+◌, ◌<◌, ◌≤◌, Bool, true, false, List, [], ◌∷◌, ◌++◌, length, length-append, Option, Some, None, refl, ap, sym, ◌∙◌, arith}
use Rattle.std.specs.Prelude.{slice_get, if◌then◌else◌}
use Rattle.std.specs.Map.{keys_of}
use Rattle.site_base.specs.declared.item_name.ItemName.{ItemName}
use Rattle.read_record.specs.declared.key.Key.{Key}
use Rattle.read_record.specs.declared.outcome.Agreement.{Agreement}
use Rattle.read_record.specs.declared.outcome.Agreement.TheVariants as agreement
use Rattle.read_record.specs.declared.outcome.Checked.TheVariants as checked
use Rattle.read_record.specs.Queries.{View, Reads}
use Rattle.read_record.specs.Records.{agreement_of, checked_at, first_other_from, first_other}
use Rattle.read_record.specs.Entries.{Kept}
use Rattle.round_core.specs.Meant.{Given, is_other, is_stale}
use Rattle.round_core.specs.Steps.{Differs}
use Rattle.render_workers.specs.declared.answers.Why.{Why}
use Rattle.render_workers.specs.Whys.{other_at, first_other_key, reason_of, why_for, why_of, why_at, whys_below, why_names}

-- the first other read stands so many places behind the first
record StandsBehind (reads : Reads) (view : View) (first place : ℕ) : Type 0 where
  behind : ℕ
  at : place ≡ first + behind
  within : behind < length reads
  key : slice_get (keys_of reads) behind ≡ first_other_key reads view

stands : (view : View) (rs : Reads) (n p : ℕ) → first_other_from n rs view ≡ checked.Differs p → StandsBehind rs view n p
stands view [] n p h = cc
stands view (r ∷ rs) n p h = go (agreement_of (view r.0) r.1) refl (stands view rs (n + 1) p) h
  where
    go : (a : Agreement) → agreement_of (view r.0) r.1 ≡ a → (first_other_from (n + 1) rs view ≡ checked.Differs p → StandsBehind rs view (n + 1) p)
        → checked_at a n (first_other_from (n + 1) rs view) ≡ checked.Differs p → StandsBehind (r ∷ rs) view n p
    go agreement.Same is ih f =
        let s = ih f in
        let later : p ≡ n + suc (s.behind) = omega (arith, s.at) in
        let there : suc (s.behind) < length (r ∷ rs) = omega (arith, s.within) in
        record { behind = suc (s.behind); at = later; within = there; key = s.key ∙ ap (λ a. other_at a r.0 (first_other_key rs view)) (sym is) }
    go agreement.Other is ih f =
        let same : n ≡ p = cc in
        let here : p ≡ n + 0 = omega arith in
        record { behind = 0; at = here; within = omega arith; key = ap (λ a. other_at a r.0 (first_other_key rs view)) (sym is) }
    go (agreement.Needs j) is ih f = cc

-- the place of the first other read is one of the record
pub place-within : (view : View) (reads : Reads) (p : ℕ) → first_other reads view ≡ checked.Differs p → p < length reads
place-within view reads p h = let s = stands view reads 0 p h in omega (arith, s.at, s.within)

-- and its key is the reason
pub reason-at : (view : View) (reads : Reads) (p : ℕ) (k : Key) → first_other reads view ≡ checked.Differs p → slice_get (keys_of reads) p ≡ Some k → Some k ≡ first_other_key reads view
reason-at view reads p k h there =
    let s = stands view reads 0 p h in
    let at : p ≡ s.behind = omega (arith, s.at) in
    sym there ∙ ap (slice_get (keys_of reads)) at ∙ s.key

module _ (kept : Option Kept) (view : View) (name : ItemName) where
  pub why-stale : is_stale kept view ≡ true → why_of kept view name ≡ why_for name (reason_of kept view) ∷ []
  why-stale h = let why : Why = why_for name (reason_of kept view) in ap (λ b. if b then why ∷ [] else []) h

  pub why-fresh : is_stale kept view ≡ false → why_of kept view name ≡ []
  why-fresh h = let why : Why = why_for name (reason_of kept view) in ap (λ b. if b then why ∷ [] else []) h

-- what is kept differs, and the item is told for that reason
pub why-differs : (kept : Option Kept) (view : View) (name : ItemName) (why : Why) → Differs kept view → why ≡ why_for name (reason_of kept view) → why_of kept view name ≡ why ∷ []
why-differs None view name why d is = why-stale None view name refl ∙ ap (λ w. w ∷ []) (sym is)
why-differs (Some e) view name why d is = why-stale (Some e) view name (ap is_other d.1) ∙ ap (λ w. w ∷ []) (sym is)

one-at-most : (b : Bool) (w : Why) → length (if b then w ∷ [] else []) ≤ 1
one-at-most true w = omega arith
one-at-most false w = omega arith

-- no more items are stale than there are
pub whys-few : (g : Given) (n : ℕ) → length (whys_below g n) ≤ n
unfolding whys_below
whys-few g zero = omega arith
whys-few g (suc n) =
    let before = whys-few g n in
    let here : length (why_at g n) ≤ 1 = one-at-most _ _ in
    let both = length-append (whys_below g n) (why_at g n) in
    omega arith

pub names-append : (a b : List Why) → why_names (a ++ b) ≡ why_names a ++ why_names b
names-append [] b = refl
names-append (w ∷ a) b = ap (λ ns. w.name ∷ ns) (names-append a b)
