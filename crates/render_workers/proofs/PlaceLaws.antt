-- What workers brought back, each at the place of its item.
use Rattle.std.proofs.Common.{◌≡◌, ◌≢◌, ◌⊎◌, inl, inr, eqb, ne_eqb, true, false, if◌then◌else◌, ℕ, zero, suc, ◌+◌, ◌<◌, ◌≤◌, List, [], ◌∷◌, ◌++◌, length, set, replicate, Option, Some, None, refl, ap, sym, ◌∙◌, subst, eq-eqb, arith}
use Rattle.std.specs.Prelude.{slice_get, All}
use Rattle.std.proofs.lemmas.Bool.Decides.{eqb_tells}
use Rattle.std.proofs.lemmas.List.{length-set, length-replicate}
use Rattle.std.proofs.lemmas.List.Elements.{All-head, All-tail}
use Rattle.site_base.specs.declared.item_name.ItemName.{ItemName}
use Rattle.claim_table.specs.Counts.{one_if_same}
use Rattle.claim_table.specs.Counts as claims
use Rattle.claim_table.specs.Counts.{EachOnce}
use Rattle.claim_table.specs.Seats.{Seated}
use Rattle.round_core.specs.Meant.{Given}
use Rattle.render_workers.specs.declared.progress.Progress.{Progress}
use Rattle.render_workers.specs.declared.part.Brought.{Brought}
use Rattle.render_workers.specs.declared.part.Work.{Work}
use Rattle.render_workers.specs.Tallies.{times}
use Rattle.render_workers.specs.Brought.{IsRightAt, new_name, names_of, items_of, Brings, IsPart, name_in, Places, names_in, all_placed}
use Rattle.render_workers.proofs.TallyLaws.{times-append}
use Rattle.render_workers.proofs.CollectLaws.{AreRight, Collected}
use Rattle.render_workers.proofs.RoundLaws.{start}

same-number : (i : ℕ) → one_if_same i i ≡ 1
same-number i = ap (λ b. if b then 1 else 0) (eq-eqb i i refl)

other-number : (i j : ℕ) → one_if_same (suc i) (suc j) ≡ one_if_same i j
other-number i j = at (eqb_tells i j)
  where
    at : ((eqb i j ≡ true) × (i ≡ j)) ⊎ ((eqb i j ≡ false) × (i ≢ j)) → one_if_same (suc i) (suc j) ≡ one_if_same i j
    at (inl e) = ap (λ b. if b then 1 else 0) (eq-eqb (suc i) (suc j) (ap suc e.1) ∙ sym e.0)
    at (inr e) = ap (λ b. if b then 1 else 0) (ne_eqb (suc i) (suc j) (λ q. e.1 (omega (arith, q))) ∙ sym e.0)

module _ {M : Type 0} where
  -- whether something stands at a place
  abbrev pub is_there : Option (Option (Work M)) → ℕ
  is_there (Some (Some w)) = 1
  is_there (Some None) = 0
  is_there None = 0

  abbrev pub full_at : Places M → ℕ → ℕ
  full_at ws i = is_there (slice_get ws i)

  -- ---- one place

  names-set : (x : ItemName) (ws : Places M) (i : ℕ) (w : Work M) → i < length ws → full_at ws i ≡ 0 → times x (names_in (set ws i (Some w))) ≡ times x (names_in ws) + times x (new_name w)
  names-set x [] i w within free = absurd (omega arith)
  names-set x (None ∷ ws) zero w within free = let a = times-append x (new_name w) (names_in ws) in omega arith
  names-set x (Some v ∷ ws) zero w within free = absurd (omega arith)
  names-set x (v ∷ ws) (suc i) w within free =
      let ih = names-set x ws i w (omega arith) free in
      let a = times-append x (name_in v) (names_in (set ws i (Some w))) in
      let b = times-append x (name_in v) (names_in ws) in
      omega (arith, ih, a, b)

  full-set : (ws : Places M) (i j : ℕ) (w : Work M) → full_at (set ws i (Some w)) j ≤ full_at ws j + one_if_same i j
  full-set [] i j w = omega arith
  full-set (v ∷ ws) zero zero w = omega arith
  full-set (v ∷ ws) zero (suc j) w = omega arith
  full-set (v ∷ ws) (suc i) zero w = omega arith
  full-set (v ∷ ws) (suc i) (suc j) w = let ih : full_at (set ws i (Some w)) j ≤ full_at ws j + one_if_same i j = full-set ws i j w in let o = other-number i j in omega (arith, ih, o)

  right-set : (g : Given) (k : ℕ) (ws : Places M) (i : ℕ) (w : Work M) → AreRight g k ws → IsRightAt g (k + i) w → AreRight g k (set ws i (Some w))
  unfolding AreRight
  right-set g k [] i w right here = right
  right-set g k (v ∷ ws) zero w right here = (subst (λ n. IsRightAt g n w) (omega arith) here, right.1)
  right-set g k (v ∷ ws) (suc i) w right here = (right.0, right-set g (suc k) ws i w right.1 (subst (λ n. IsRightAt g n w) (omega arith) here))

  -- ---- all places

  pub length-placed : (bs : List (Brought M)) (ws : Places M) → length (all_placed bs ws) ≡ length ws
  length-placed [] ws = refl
  length-placed (b ∷ bs) ws = length-set (all_placed bs ws) b.item (Some b.work) ∙ length-placed bs ws

  -- the last one first
  placed-last : (bs : List (Brought M)) (b : Brought M) (ws : Places M) → all_placed (bs ++ b ∷ []) ws ≡ all_placed bs (set ws b.item (Some b.work))
  placed-last [] b ws = refl
  placed-last (c ∷ bs) b ws = ap (λ (vs : Places M). set vs c.item (Some c.work)) (placed-last bs b ws)

  pub placed-next : (bs cs : List (Brought M)) (b : Brought M) (ws : Places M) (w : Option (Work M)) → cs ≡ bs ++ b ∷ [] → w ≡ Some b.work → all_placed bs (set ws b.item w) ≡ all_placed cs ws
  placed-next bs cs b ws w last is = ap (λ v. all_placed bs (set ws b.item v)) is ∙ sym (placed-last bs b ws) ∙ ap (λ xs. all_placed xs ws) (sym last)

  full-placed : (bs : List (Brought M)) (ws : Places M) (i : ℕ) → full_at (all_placed bs ws) i ≤ full_at ws i + claims.times i (items_of bs)
  full-placed [] ws i = omega arith
  full-placed (b ∷ bs) ws i = let ih = full-placed bs ws i in let s = full-set (all_placed bs ws) b.item i b.work in omega (arith, ih, s)

  -- no item stands twice in the list, nor at its place and in the list
  abbrev pub Free : List (Brought M) → Places M → Type 0
  Free bs ws = (i : ℕ) → claims.times i (items_of bs) + full_at ws i ≤ 1

  module _ (b : Brought M) (bs : List (Brought M)) (ws : Places M) (free : Free (b ∷ bs) ws) where
    is-free : full_at (all_placed bs ws) b.item ≡ 0
    is-free = let f = free b.item in let s = same-number b.item in let p = full-placed bs ws b.item in omega (arith, f, s, p)

    rest-free : Free bs ws
    rest-free i = let f = free i in omega (arith, f)

  pub names-placed : (g : Given) (x : ItemName) (bs : List (Brought M)) (ws : Places M) → All (Brings g) bs → length ws ≡ length g.names → Free bs ws
      → times x (names_in (all_placed bs ws)) ≡ times x (names_in ws) + times x (names_of bs)
  names-placed g x [] ws right count free = omega arith
  names-placed g x (b ∷ bs) ws right count free =
      let here : Brings g b = All-head (Brings g) b bs right in
      let within : b.item < length (all_placed bs ws) = rw (length-placed bs ws, count) here.0 in
      let before = names-placed g x bs ws (All-tail (Brings g) b bs right) count (rest-free b bs ws free) in
      let one = names-set x (all_placed bs ws) b.item b.work within (is-free b bs ws free) in
      let a = times-append x (new_name b.work) (names_of bs) in
      omega (arith, before, one, a)

  pub right-placed : (g : Given) (bs : List (Brought M)) (ws : Places M) → All (Brings g) bs → AreRight g 0 ws → AreRight g 0 (all_placed bs ws)
  right-placed g [] ws right are = are
  right-placed g (b ∷ bs) ws right are =
      let here : Brings g b = All-head (Brings g) b bs right in
      right-set g 0 (all_placed bs ws) b.item b.work (right-placed g bs ws (All-tail (Brings g) b bs right) are) (subst (λ n. IsRightAt g n b.work) (omega arith) here.1)

-- ---- no places yet

module _ (M : Type 0) where
  pub right-none : (g : Given) (k n : ℕ) → AreRight {M = M} g k (replicate n None)
  unfolding AreRight
  right-none g k zero = tt
  right-none g k (suc n) = (tt, right-none g (suc k) n)

  pub names-none : (n : ℕ) → names_in {M = M} (replicate n None) ≡ []
  names-none zero = refl
  names-none (suc n) = names-none n

  none-full : (n i : ℕ) → full_at {M = M} (replicate n None) i ≡ 0
  none-full zero i = refl
  none-full (suc n) zero = refl
  none-full (suc n) (suc i) = none-full n i

  pub all-free : (bs : List (Brought M)) (n : ℕ) → ((i : ℕ) → claims.times i (items_of bs) ≤ 1) → Free bs (replicate n None)
  all-free bs n once i = let o = once i in let f = none-full n i in omega (arith, o, f)

  -- ---- the collector begins

  -- what all workers brought back is at its places, and their names joined the tally
  pub begun : (g : Given) (p : Progress) (before tally rendered : List ItemName) (seat : Seated) (bs : List (Brought M)) (ws : Places M) → p.outs ≡ [] → p.why ≡ [] → tally ≡ before ++ rendered
      → IsPart g seat.table seat rendered bs → EachOnce seat.mine seat.done → ws ≡ all_placed bs (replicate (length g.names) None) → Collected g p.bytes 0 p g.entries before tally ws
  begun g p before tally rendered seat bs ws outs why joined part once placed =
      let none : Places M = replicate (length g.names) None in
      let free : Free bs none = all-free bs (length g.names) (λ i. (let o = once i in let d = ap (claims.times i) part.done in omega (arith, o, d))) in
      let room : length none ≡ length g.names = length-replicate (length g.names) None in
      subst (Collected g p.bytes 0 p g.entries before tally) (sym placed) (record {
        serial = before;
        so_far = start g p before outs why;
        names = λ x. (
            let a = names-placed g x bs none part.right room free in
            let b = ap (times x) (names-none (length g.names)) in
            let c = times-append x before rendered in
            let d = ap (times x) joined in
            let e = ap (times x) part.named in
            omega (arith, a, b, c, d, e)
            );
        right = right-placed g bs none part.right (right-none g 0 (length g.names));
        count = (let l = length-placed bs none in omega (arith, l, room));
      })
