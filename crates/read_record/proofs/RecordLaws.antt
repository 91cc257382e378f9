-- The laws of records: where a view agrees with one, it gives what the record certifies.
use Rattle.std.proofs.Common.{◌≡◌, ℕ, ◌+◌, Bool, true, false, cond, List, [], ◌∷◌, ◌++◌, Some, None, refl, ap, sym, ◌∙◌}
use Rattle.std.proofs.lemmas.Slice.Eq.{bytes_eq-Decides}
use Rattle.std.specs.Map.{lookup}
use Rattle.std.specs.Str.{bytes_eq}
use Rattle.site_base.specs.Code.{code}
use Rattle.site_base.specs.Plain.{Plain}
use Rattle.site_base.proofs.CodeLaws.{code-injective}
use Rattle.read_record.specs.declared.key.Key.{Key}
use Rattle.read_record.specs.declared.outcome.Agreement.{Agreement}
use Rattle.read_record.specs.declared.outcome.Agreement.TheVariants as agreement_is
use Rattle.read_record.specs.declared.outcome.Checked.TheVariants as checked
use Rattle.read_record.specs.Keys.{same_key}
use Rattle.read_record.specs.SameKeys.{same_key-eq}
use Rattle.read_record.specs.Queries.{Query, Give, Fail, Ask, Reply, Known, Missing, View, on_reply, Met, Missed, interpret, Reads, noted, noted_after, run, ran, reads_of}
use Rattle.read_record.specs.Records.{agreement_of, checked_at, first_other_from, first_other, Seen, coded, recorded, Answers, IsMade, Certifies, Misses}
use Rattle.read_record.proofs.QueryLaws.{agreement, agreement-missed, certifies, run_made}

-- the reply is the value of this code
abbrev pub Gives : Reply → List ℕ → Type 0
Gives reply bytes = (v : Plain) × (reply ≡ Known v) × (bytes ≡ code v)

pub same-gives : (r : Reply) (bytes : List ℕ) → agreement_of r bytes ≡ agreement_is.Same → Gives r bytes
same-gives (Missing j) bytes h = cc
same-gives (Known v) bytes h = at (bytes_eq bytes (code v)) refl h
  where
    at : (b : Bool) → bytes_eq bytes (code v) ≡ b → cond b agreement_is.Same agreement_is.Other ≡ agreement_is.Same → Gives (Known v) bytes
    at true e g = (v, refl, (bytes_eq-Decides bytes (code v)).0 e)
    at false e g = cc

-- where no read is another, the view answers all that was seen
pub agrees-answers : (seen : Seen) (view : View) (n : ℕ) → first_other_from n (coded seen) view ≡ checked.Agrees → Answers seen view
agrees-answers [] view n h = λ k v f. cc
agrees-answers (s ∷ seen) view n h = go (agreement_of (view s.0) (code s.1)) refl h (λ g. agrees-answers seen view (n + 1) g)
  where
    at : Gives (view s.0) (code s.1) → Answers seen view → (k : Key) (v : Plain) (b : Bool) → same_key k s.0 ≡ b → cond b (Some s.1) (lookup (same_key k) seen) ≡ Some v → view k ≡ Known v
    at g ih k v true e f =
        let same : k ≡ s.0 = same_key-eq k s.0 e in
        let one : s.1 ≡ g.0 = code-injective s.1 g.0 g.2 in
        let u : s.1 ≡ v = cc in
        rw (same, g.1) (ap Known (sym one ∙ u))
    at g ih k v false e f = ih k v f

    go : (a : Agreement) → agreement_of (view s.0) (code s.1) ≡ a → checked_at a n (first_other_from (n + 1) (coded seen) view) ≡ checked.Agrees
        → (first_other_from (n + 1) (coded seen) view ≡ checked.Agrees → Answers seen view) → Answers (s ∷ seen) view
    go agreement_is.Same e g ih = λ k v f. at (same-gives (view s.0) (code s.1) e) (ih g) k v (same_key k s.0) refl f
    go agreement_is.Other e g ih = cc
    go (agreement_is.Needs j) e g ih = cc

-- where a record agrees with a view, what it certifies is what the query gives over the view
pub carried : {F A : Type 0} (reads : Reads) (view : View) → first_other reads view ≡ checked.Agrees → (q : Query F A) (m : Met F A) → Certifies reads q m → interpret view q ≡ m
carried {F} {A} reads view h q m c =
    let there : first_other_from 0 (coded c.seen) view ≡ checked.Agrees = rw (c.are) h in
    let made : IsMade {F = F} {A = A} (interpret (recorded c.seen) q) = rw (c.shows.gives) c.shows.made in
    agreement c.seen view (agrees-answers c.seen view 0 there) q made ∙ c.shows.gives

-- and where the record misses a key that the view misses too, it is what the query misses over the view
pub carried-missed : {F A : Type 0} (reads : Reads) (view : View) → first_other reads view ≡ checked.Agrees → (q : Query F A) (k : Key) (j : ℕ) → Misses reads q k → view k ≡ Missing j → interpret view q ≡ Missed k j
carried-missed {F} {A} reads view h q k j m g =
    let there : first_other_from 0 (coded m.seen) view ≡ checked.Agrees = rw (m.are) h in
    agreement-missed m.seen view (agrees-answers m.seen view 0 there) q k j m.misses g

-- ---- the reads of a run agree with its view

code-same : (view : View) (k : Key) (v : Plain) → view k ≡ Known v → agreement_of (view k) (code v) ≡ agreement_is.Same
code-same view k v h = rw (h, (bytes_eq-Decides (code v) (code v)).1 refl)

agrees-append : (reads : Reads) (view : View) (k : Key) (v : Plain) (n : ℕ) → first_other_from n reads view ≡ checked.Agrees → view k ≡ Known v → first_other_from n (reads ++ (k, code v) ∷ []) view ≡ checked.Agrees
agrees-append [] view k v n h e = rw (code-same view k v e)
agrees-append (r ∷ reads) view k v n h e = go (agreement_of (view r.0) r.1) h (λ g. agrees-append reads view k v (n + 1) g e)
  where
    go : (a : Agreement) → checked_at a n (first_other_from (n + 1) reads view) ≡ checked.Agrees
        → (first_other_from (n + 1) reads view ≡ checked.Agrees → first_other_from (n + 1) (reads ++ (k, code v) ∷ []) view ≡ checked.Agrees)
        → checked_at a n (first_other_from (n + 1) (reads ++ (k, code v) ∷ []) view) ≡ checked.Agrees
    go agreement_is.Same g ih = ih g
    go agreement_is.Other g ih = cc
    go (agreement_is.Needs j) g ih = cc

noted-agrees : (reads : Reads) (view : View) (k : Key) (v : Plain) → first_other reads view ≡ checked.Agrees → view k ≡ Known v → first_other (noted k (code v) reads) view ≡ checked.Agrees
noted-agrees reads view k v h e =
    elim (lookup (same_key k) reads) as (λ o. first_other (noted_after o k (code v) reads) view ≡ checked.Agrees) [ Some w ↦ h | None ↦ agrees-append reads view k v 0 h e ]

module _ {F A : Type 0} where
  pub reads-agree : (view : View) (reads : Reads) (q : Query F A) → first_other reads view ≡ checked.Agrees → first_other (reads_of view reads q) view ≡ checked.Agrees
  reads-agree view reads (Give a) h = h
  reads-agree view reads (Fail e) h = h
  reads-agree view reads (Ask k on) h = go (view k) refl (λ v. reads-agree view (noted k (code v) reads) (on v))
    where
      go : (r : Reply) → view k ≡ r → ((v : Plain) → first_other (noted k (code v) reads) view ≡ checked.Agrees → first_other (reads_of view (noted k (code v) reads) (on v)) view ≡ checked.Agrees) →
          first_other (on_reply r (λ v. reads_of view (noted k (code v) reads) (on v)) (λ j. reads)) view ≡ checked.Agrees
      go (Known v) e ih = ih v (noted-agrees reads view k v h e)
      go (Missing j) e ih = h

  -- what a run from an empty record leaves
  pub record Left (view : View) (q : Query F A) (m : Met F A) (reads : Reads) : Type 0 where
    pub met_there : interpret view q ≡ m
    pub certified : Certifies reads q m
    pub agreeing : first_other reads view ≡ checked.Agrees

  pub left : (view : View) (q : Query F A) (m : Met F A) (reads : Reads) → run view (Some []) q ≡ ran m (Some reads) → IsMade m → Left view q m reads
  left view q m reads h made =
      let p = run_made view q m reads h made in
      record {
        met_there = p.0;
        certified = rw (← p.0, ← p.1) (certifies view q (rw (p.0) made));
        agreeing = rw (← p.1) (reads-agree view [] q refl);
      }
