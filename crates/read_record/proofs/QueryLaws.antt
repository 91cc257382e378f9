-- The laws of queries: each is one induction over the tree of look-ups.
use Rattle.std.proofs.Common.{◌≡◌, ℕ, List, [], ◌∷◌, ◌++◌, Option, Some, None, refl, ap, sym, ◌∙◌, length, length-append, arith, append_assoc, append-nil}
use Rattle.std.specs.Map.{lookup}
use Rattle.site_base.specs.Code.{code}
use Rattle.site_base.specs.Plain.{Plain}
use Rattle.read_record.specs.declared.key.Key.{Key}
use Rattle.read_record.specs.Keys.{same_key}
use Rattle.read_record.specs.Queries.{Query, Give, Fail, Ask, bind, Reply, Known, Missing, View, on_reply, Reads, noted, Trace, note, Met, Gave, Failed, Missed, interpret, missed_key, needed_item, RanTo, FailedAt, WaitsFor, run, ran, reads_of, then_run}
use Rattle.read_record.specs.Records.{Seen, coded, reply_of, recorded, Answers, IsMade, Shows, Certifies}
use Rattle.read_record.proofs.SeenLaws.{found-more, found-new, answers-one, seen_after, saw, saw-answers, saw-finds, noted-coded}

-- ---- one query after another

module _ {F A B : Type 0} where
  pub run-bind : (view : View) (t : Trace) (q : Query F A) (next : A → Query F B) → run view t (bind q next) ≡ then_run (run view t q) (λ a s. run view s (next a))
  run-bind view t (Give a) next = refl
  run-bind view t (Fail e) next = refl
  run-bind view t (Ask k on) next =
      elim (view k) as (λ r. on_reply r (λ v. run view (note k v t) (bind (on v) next)) (λ j. WaitsFor j t) ≡ then_run (on_reply r (λ v. run view (note k v t) (on v)) (λ j. WaitsFor j t)) (λ a s. run view s (next a)))
      [ Known v ↦ run-bind view (note k v t) (on v) next | Missing j ↦ refl ]

  pub interpret-bind : (view : View) (q : Query F A) (next : A → Query F B) (a : A) → interpret view q ≡ Gave a → interpret view (bind q next) ≡ interpret view (next a)
  interpret-bind view (Give b) next a h = let e : b ≡ a = cc in rw e
  interpret-bind view (Fail e) next a h = cc
  interpret-bind view (Ask k on) next a h =
      (elim (view k) as (λ r. on_reply r (λ v. interpret view (on v)) (λ j. Missed k j) ≡ Gave a → on_reply r (λ v. interpret view (bind (on v) next)) (λ j. Missed k j) ≡ interpret view (next a))
      [ Known v ↦ interpret-bind view (on v) next a | Missing j ↦ λ e. cc ]) h

module _ {F A B : Type 0} (view : View) (t : Trace) (q : Query F A) (next : A → Query F B) where
  pub run_gave : (a : A) (s : Trace) → run view t q ≡ RanTo a s → run view t (bind q next) ≡ run view s (next a)
  run_gave a s h = run-bind view t q next ∙ ap (λ r. then_run r (λ a s. run view s (next a))) h

  pub run_failed : (e : F) (s : Trace) → run view t q ≡ FailedAt e s → run view t (bind q next) ≡ FailedAt e s
  run_failed e s h = run-bind view t q next ∙ ap (λ r. then_run r (λ a s. run view s (next a))) h

  pub run_waits : (j : ℕ) (s : Trace) → run view t q ≡ WaitsFor j s → run view t (bind q next) ≡ WaitsFor j s
  run_waits j s h = run-bind view t q next ∙ ap (λ r. then_run r (λ a s. run view s (next a))) h

-- ---- what a run leaves

module _ {F A : Type 0} where
  -- what is met, with the trace that is left beside it
  pub run-traced : (view : View) (reads : Reads) (q : Query F A) → run view (Some reads) q ≡ ran (interpret view q) (Some (reads_of view reads q))
  run-traced view reads (Give a) = refl
  run-traced view reads (Fail e) = refl
  run-traced view reads (Ask k on) =
      elim (view k) as (λ r. on_reply r (λ v. run view (note k v (Some reads)) (on v)) (λ j. WaitsFor j (Some reads))
      ≡ ran (on_reply r (λ v. interpret view (on v)) (λ j. Missed k j)) (Some (on_reply r (λ v. reads_of view (noted k (code v) reads) (on v)) (λ j. reads))))
      [ Known v ↦ run-traced view (noted k (code v) reads) (on v) | Missing j ↦ refl ]

  pub run-untraced : (view : View) (q : Query F A) → run view None q ≡ ran (interpret view q) None
  run-untraced view (Give a) = refl
  run-untraced view (Fail e) = refl
  run-untraced view (Ask k on) =
      elim (view k) as (λ r. on_reply r (λ v. run view None (on v)) (λ j. WaitsFor j None) ≡ ran (on_reply r (λ v. interpret view (on v)) (λ j. Missed k j)) None)
      [ Known v ↦ run-untraced view (on v) | Missing j ↦ refl ]

-- ---- agreement

module _ {F A : Type 0} where
  -- where a view answers what was seen, it gives what the record gives
  pub agreement : (seen : Seen) (view : View) → Answers seen view → (q : Query F A) → IsMade (interpret (recorded seen) q) → interpret view q ≡ interpret (recorded seen) q
  agreement seen view answers (Give a) made = refl
  agreement seen view answers (Fail e) made = refl
  agreement seen view answers (Ask k on) made = go (lookup (same_key k) seen) refl (λ v. agreement seen view answers (on v)) made
    where
      go : (o : Option Plain) → lookup (same_key k) seen ≡ o → ((v : Plain) → IsMade (interpret (recorded seen) (on v)) → interpret view (on v) ≡ interpret (recorded seen) (on v)) →
          IsMade (on_reply (reply_of o) (λ v. interpret (recorded seen) (on v)) (λ j. Missed k j)) →
          on_reply (view k) (λ v. interpret view (on v)) (λ j. Missed k j) ≡ on_reply (reply_of o) (λ v. interpret (recorded seen) (on v)) (λ j. Missed k j)
      go (Some v) e ih m = rw (answers k v e) (ih v m)
      go None e ih m = absurd m

  -- and where the record misses a key, and the view misses it, it is what the view misses
  pub agreement-missed : (seen : Seen) (view : View) → Answers seen view → (q : Query F A) (j : Key) (n : ℕ) → missed_key (interpret (recorded seen) q) ≡ Some j → view j ≡ Missing n → interpret view q ≡ Missed j n
  agreement-missed seen view answers (Give a) j n h g = cc
  agreement-missed seen view answers (Fail e) j n h g = cc
  agreement-missed seen view answers (Ask k on) j n h g = go (lookup (same_key k) seen) refl (λ v. agreement-missed seen view answers (on v) j n) h
    where
      go : (o : Option Plain) → lookup (same_key k) seen ≡ o → ((v : Plain) → missed_key (interpret (recorded seen) (on v)) ≡ Some j → view j ≡ Missing n → interpret view (on v) ≡ Missed j n) →
          missed_key (on_reply (reply_of o) (λ v. interpret (recorded seen) (on v)) (λ x. Missed k x)) ≡ Some j →
          on_reply (view k) (λ v. interpret view (on v)) (λ x. Missed k x) ≡ Missed j n
      go (Some v) e ih f = rw (answers k v e) (ih v f g)
      go None e ih f = let same : k ≡ j = cc in rw (same, g)

-- ---- what a run sees is what is needed

cancel : {A : Type 0} (xs ys zs : List A) → xs ++ ys ≡ xs ++ zs → ys ≡ zs
cancel [] ys zs h = h
cancel (x ∷ xs) ys zs h = cancel xs ys zs (cc)

too_long : {A : Type 0} (xs zs : List A) (x : A) (back : List A) → xs ≡ (xs ++ zs) ++ x ∷ back → ⊥
too_long xs zs x back h = omega (arith, simp length-append at (ap length h))

next-first : {A : Type 0} (xs more : List A) (x y : A) (back : List A) → (xs ++ x ∷ []) ++ more ≡ (xs ++ []) ++ y ∷ back → x ≡ y
next-first xs more x y back h =
    let e : x ∷ more ≡ y ∷ back = cancel xs _ _ (sym (append_assoc xs (x ∷ []) more) ∙ h ∙ append_assoc xs [] (y ∷ back)) in cc

next-later : {A : Type 0} (xs more : List A) (x z : A) (zs : List A) (y : A) (back : List A) → (xs ++ x ∷ []) ++ more ≡ (xs ++ z ∷ zs) ++ y ∷ back → x ≡ z
next-later xs more x z zs y back h =
    let e : x ∷ more ≡ z ∷ (zs ++ y ∷ back) = cancel xs _ _ (sym (append_assoc xs (x ∷ []) more) ∙ h ∙ append_assoc xs (z ∷ zs) (y ∷ back)) in cc

saw-extends : (seen : Seen) (k : Key) (v : Plain) → (more : Seen) × (saw k v seen ≡ seen ++ more)
saw-extends seen k v =
    elim (lookup (same_key k) seen) as (λ o. (more : Seen) × (seen_after o k v seen ≡ seen ++ more)) [ Some w ↦ ([], sym (append-nil seen)) | None ↦ ((k, v) ∷ [], refl) ]

module _ {F A : Type 0} where
  -- what is seen over a view, behind what was seen before
  abbrev seen_in : View → Seen → Query F A → Seen
  seen_in view seen (Give a) = seen
  seen_in view seen (Fail e) = seen
  seen_in view seen (Ask k on) = on_reply (view k) (λ v. seen_in view (saw k v seen) (on v)) (λ j. seen)

  -- its codes are the reads
  reads-seen : (view : View) (seen : Seen) (q : Query F A) → reads_of view (coded seen) q ≡ coded (seen_in view seen q)
  reads-seen view seen (Give a) = refl
  reads-seen view seen (Fail e) = refl
  reads-seen view seen (Ask k on) =
      elim (view k) as (λ r. on_reply r (λ v. reads_of view (noted k (code v) (coded seen)) (on v)) (λ j. coded seen) ≡ coded (on_reply r (λ v. seen_in view (saw k v seen) (on v)) (λ j. seen)))
      [ Known v ↦ ap (λ reads. reads_of view reads (on v)) (noted-coded k v seen) ∙ reads-seen view (saw k v seen) (on v) | Missing j ↦ refl ]

  seen-extends : (view : View) (seen : Seen) (q : Query F A) → (more : Seen) × (seen_in view seen q ≡ seen ++ more)
  seen-extends view seen (Give a) = ([], sym (append-nil seen))
  seen-extends view seen (Fail e) = ([], sym (append-nil seen))
  seen-extends view seen (Ask k on) =
      elim (view k) as (λ r. (more : Seen) × (on_reply r (λ v. seen_in view (saw k v seen) (on v)) (λ j. seen) ≡ seen ++ more)) [
        | Known v ↦ (let a = saw-extends seen k v in let b = seen-extends view (saw k v seen) (on v) in (a.0 ++ b.0, b.1 ∙ ap (λ x. x ++ b.0) a.1 ∙ append_assoc seen a.0 b.0))
        | Missing j ↦ ([], sym (append-nil seen))
      ]

  seen-answered : (view : View) (seen : Seen) (q : Query F A) → Answers seen view → Answers (seen_in view seen q) view
  seen-answered view seen (Give a) answers = answers
  seen-answered view seen (Fail e) answers = answers
  seen-answered view seen (Ask k on) answers = go (view k) refl (λ v. seen-answered view (saw k v seen) (on v))
    where
      go : (r : Reply) → view k ≡ r → ((v : Plain) → Answers (saw k v seen) view → Answers (seen_in view (saw k v seen) (on v)) view) →
          Answers (on_reply r (λ v. seen_in view (saw k v seen) (on v)) (λ j. seen)) view
      go (Known v) e ih = ih v (saw-answers seen view k v answers e)
      go (Missing j) e ih = answers

  seen-found : (view : View) (seen : Seen) (q : Query F A) (k : Key) (v : Plain) → lookup (same_key k) seen ≡ Some v → lookup (same_key k) (seen_in view seen q) ≡ Some v
  seen-found view seen q k v h = let p = seen-extends view seen q in rw p.1 (found-more k v seen p.0 h)

  seen-gives : (view : View) (seen : Seen) (q : Query F A) → Answers seen view → IsMade (interpret view q) → interpret (recorded (seen_in view seen q)) q ≡ interpret view q
  seen-gives view seen (Give a) answers made = refl
  seen-gives view seen (Fail e) answers made = refl
  seen-gives view seen (Ask k on) answers made = go (view k) refl (λ v. seen-gives view (saw k v seen) (on v)) made
    where
      go : (r : Reply) → view k ≡ r →
          ((v : Plain) → Answers (saw k v seen) view → IsMade (interpret view (on v)) → interpret (recorded (seen_in view (saw k v seen) (on v))) (on v) ≡ interpret view (on v)) →
          IsMade (on_reply r (λ v. interpret view (on v)) (λ j. Missed k j)) →
          on_reply (reply_of (lookup (same_key k) (on_reply r (λ v. seen_in view (saw k v seen) (on v)) (λ j. seen)))) (λ v. interpret (recorded (on_reply r (λ w. seen_in view (saw k w seen) (on w)) (λ j. seen))) (on v)) (λ j. Missed k j)
          ≡ on_reply r (λ v. interpret view (on v)) (λ j. Missed k j)
      go (Known v) e ih m = rw (seen-found view (saw k v seen) (on v) k v (saw-finds seen view k v answers e)) (ih v (saw-answers seen view k v answers e) m)
      go (Missing j) e ih m = absurd m

  seen-needed : (view : View) (seen : Seen) (q : Query F A) → Answers seen view → (front : Seen) (s : Key × Plain) (back zs : Seen) →
      seen_in view seen q ≡ front ++ s ∷ back → front ≡ seen ++ zs → missed_key (interpret (recorded front) q) ≡ Some s.0
  seen-needed view seen (Give a) answers front s back zs h f = absurd (too_long seen zs s back (h ∙ ap (λ x. x ++ s ∷ back) f))
  seen-needed view seen (Fail e) answers front s back zs h f = absurd (too_long seen zs s back (h ∙ ap (λ x. x ++ s ∷ back) f))
  seen-needed view seen (Ask k on) answers front s back zs h f = go (view k) refl (lookup (same_key k) seen) refl zs (λ v. seen-needed view (saw k v seen) (on v)) h f
    where
      go : (r : Reply) → view k ≡ r → (o : Option Plain) → lookup (same_key k) seen ≡ o → (zs : Seen) →
          ((v : Plain) → Answers (seen_after o k v seen) view → (front : Seen) (s : Key × Plain) (back zs : Seen) →
          seen_in view (seen_after o k v seen) (on v) ≡ front ++ s ∷ back → front ≡ seen_after o k v seen ++ zs → missed_key (interpret (recorded front) (on v)) ≡ Some s.0) →
          on_reply r (λ v. seen_in view (seen_after o k v seen) (on v)) (λ j. seen) ≡ front ++ s ∷ back → front ≡ seen ++ zs →
          missed_key (on_reply (reply_of (lookup (same_key k) front)) (λ v. interpret (recorded front) (on v)) (λ j. Missed k j)) ≡ Some s.0
      go (Missing j) d o e zs ih h f = absurd (too_long seen zs s back (h ∙ ap (λ x. x ++ s ∷ back) f))
      go (Known v) d (Some w) e zs ih h f =
          let g : view k ≡ Known w = answers k w e in
          let same : v ≡ w = cc in
          let found : lookup (same_key k) front ≡ Some v = rw (f, same) (found-more k w seen zs e) in
          rw found (ih v answers front s back zs h f)
      go (Known v) d None e [] ih h f =
          let p = seen-extends view (seen ++ (k, v) ∷ []) (on v) in
          let same : (k, v) ≡ s = next-first seen p.0 (k, v) s back (sym p.1 ∙ h ∙ ap (λ x. x ++ s ∷ back) f) in
          let none : lookup (same_key k) front ≡ None = rw (f, append-nil) e in
          rw none (ap (λ (x : Key × Plain). Some x.0) same)
      go (Known v) d None e (z ∷ zs) ih h f =
          let p = seen-extends view (seen ++ (k, v) ∷ []) (on v) in
          let same : (k, v) ≡ z = next-later seen p.0 (k, v) z zs s back (sym p.1 ∙ h ∙ ap (λ x. x ++ s ∷ back) f) in
          let g : front ≡ (seen ++ (k, v) ∷ []) ++ zs = f ∙ ap (λ x. seen ++ x ∷ zs) (sym same) ∙ sym (append_assoc seen ((k, v) ∷ []) zs) in
          let found : lookup (same_key k) front ≡ Some v = rw g (found-more k v (seen ++ (k, v) ∷ []) zs (found-new k v seen e)) in
          rw found (ih v (answers-one seen view k v answers d) front s back zs h g)

  shows : (view : View) (q : Query F A) → IsMade (interpret view q) → Shows (seen_in view [] q) q (interpret view q)
  shows view q m =
      let none : Answers [] view = λ k v h. cc in
      record { made = m; gives = seen-gives view [] q none m; needed = λ front s back h. seen-needed view [] q none front s back front h refl }

  -- what a query gives over a view is certified by its reads
  pub certifies : (view : View) (q : Query F A) → IsMade (interpret view q) → Certifies (reads_of view [] q) q (interpret view q)
  certifies view q m = record { seen = seen_in view [] q; are = sym (reads-seen view [] q); shows = shows view q m }

  -- and the view answers what was seen
  pub reads-answered : (view : View) (q : Query F A) → (seen : Seen) × (coded seen ≡ reads_of view [] q) × Answers seen view
  reads-answered view q = (seen_in view [] q, sym (reads-seen view [] q), seen-answered view [] q (λ k v h. cc))

-- ---- a run from an empty record

module _ {F A : Type 0} where
  same_reads : (xs ys : Reads) (n m : Met F A) → ran n (Some xs) ≡ ran m (Some ys) → IsMade m → xs ≡ ys
  same_reads xs ys (Gave a) (Gave b) p made = cc
  same_reads xs ys (Failed a) (Failed b) p made = cc
  same_reads xs ys (Missed k j) (Missed i l) p made = absurd made
  same_reads xs ys _ _ p made = cc

  same_met : (xs ys : Reads) (n m : Met F A) → ran n (Some xs) ≡ ran m (Some ys) → IsMade m → n ≡ m
  same_met xs ys (Gave a) (Gave b) p made = let e : a ≡ b = cc in ap Gave e
  same_met xs ys (Failed a) (Failed b) p made = let e : a ≡ b = cc in ap Failed e
  same_met xs ys (Missed k j) (Missed i l) p made = absurd made
  same_met xs ys _ _ p made = cc

  -- what it leaves: what is met, and the reads
  pub run_made : (view : View) (q : Query F A) (m : Met F A) (reads : Reads) → run view (Some []) q ≡ ran m (Some reads) → IsMade m → (interpret view q ≡ m) × (reads_of view [] q ≡ reads)
  run_made view q m reads h made = let p = sym (run-traced view [] q) ∙ h in (same_met _ _ (interpret view q) m p made, same_reads _ _ (interpret view q) m p made)

  pub run_needs : (view : View) (s t : Trace) (q : Query F A) (j : ℕ) → run view s q ≡ WaitsFor j t → needed_item (interpret view q) ≡ Some j
  run_needs view s t (Give a) j h = cc
  run_needs view s t (Fail e) j h = cc
  run_needs view s t (Ask k on) j h =
      (elim (view k) as (λ r. on_reply r (λ v. run view (note k v s) (on v)) (λ j. WaitsFor j s) ≡ WaitsFor j t → needed_item (on_reply r (λ v. interpret view (on v)) (λ j. Missed k j)) ≡ Some j)
      [ Known v ↦ run_needs view (note k v s) t (on v) j | Missing i ↦ λ e. (let f : i ≡ j = cc in ap (λ x. Some x) f) ]) h
