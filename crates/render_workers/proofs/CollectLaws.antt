-- What workers brought back, item by item.
use Rattle.std.proofs.Common.{◌≡◌, Bool, true, false, if◌then◌else◌, ℕ, zero, suc, ◌+◌, ◌<◌, ◌≤◌, List, [], ◌∷◌, ◌++◌, length, get_or, drop, set, add-one, Option, Some, None, Ok, Err, refl, ap, sym, ◌∙◌, subst, arith}
use Rattle.std.specs.Prelude.{slice_get, IfSome}
use Rattle.std.specs.FinMap.{get}
use Rattle.std.proofs.lemmas.Option.{slice_get-get_or}
use Rattle.site_base.specs.declared.faults.SiteFault.{SiteFault}
use Rattle.site_base.specs.declared.item_name.ItemName.{ItemName}
use Rattle.read_record.specs.Queries.{Query, View}
use Rattle.read_record.specs.Outcomes.{Page}
use Rattle.read_record.specs.Entries.{Kept, Tells}
use Rattle.memo_table.specs.Entries.{Entries, of_names}
use Rattle.round_core.specs.Meant.{Given, nameless, name_at, kept_at, view_at, is_stale, stale}
use Rattle.render_workers.specs.declared.answers.Why.{Why}
use Rattle.render_workers.specs.declared.answers.Round.{Round}
use Rattle.render_workers.specs.declared.answers.RoundError.{RoundError}
use Rattle.render_workers.specs.declared.answers.RoundError.TheVariants as error
use Rattle.render_workers.specs.declared.part.Work.{Work}
use Rattle.render_workers.specs.declared.part.Work.TheVariants as work
use Rattle.render_workers.specs.declared.progress.Progress.{Progress}
use Rattle.render_workers.specs.Whys.{why_of, why_for, reason_of, why_names, stale_in, stale_behind}
use Rattle.render_workers.specs.Turns.{Turns, Ends, IsTurn}
use Rattle.render_workers.specs.Tallies.{times}
use Rattle.render_workers.specs.Brought.{IsFresh, IsRight, IsRightAt, name_in, Places, names_in}
use Rattle.render_workers.specs.Worked.{IsWorked}
use Rattle.render_workers.proofs.FoldLaws.{drop-next}
use Rattle.render_workers.proofs.TallyLaws.{times-append}
use Rattle.render_workers.proofs.TryLaws.{of-some, if-some}
use Rattle.render_workers.proofs.RoundLaws.{SoFar, view, named, kept-here, goes, stops, whole}

-- an item that is told has its name
told-named : (kept : Option Kept) (v : View) (name : ItemName) (why : Why) → why_of kept v name ≡ why ∷ [] → why.name ≡ name
told-named kept v name why h = at (is_stale kept v) h
  where
    at : (b : Bool) → (if b then why_for name (reason_of kept v) ∷ [] else []) ≡ why ∷ [] → why.name ≡ name
    at true e = let same : why_for name (reason_of kept v) ≡ why = cc in ap (λ (w : Why). w.name) (sym same)
    at false e = cc

-- and is stale
told-stale : (kept : Option Kept) (v : View) (name : ItemName) (why : Why) → why_of kept v name ≡ why ∷ [] → is_stale kept v ≡ true
told-stale kept v name why h = at (is_stale kept v) h
  where
    at : (b : Bool) → (if b then why_for name (reason_of kept v) ∷ [] else []) ≡ why ∷ [] → b ≡ true
    at true e = refl
    at false e = cc

-- what is kept of an item that a worker kept is what the collector finds
pub fresh-entry : (o : Option ItemName) (v : View) (item : ItemName → Query SiteFault Page) (m : Entries) (e : Kept) (n : ItemName) (names : List ItemName) → o ≡ Some n → Some e ≡ get m n
    → IfSome o (λ name. IsFresh (get m name) v name (item name)) → IfSome o (λ name. (get m name ≡ Some e) × Tells v name (item name) e × (names ≡ names))
fresh-entry o v item m e n names is found h =
    let f : IsFresh (get m n) v n (item n) = of-some (λ name. IsFresh (get m name) v name (item name)) o n is h in
    let same : f.0 ≡ e = (let s : Some f.0 ≡ Some e = sym f.1 ∙ sym found in cc) in
    if-some (λ name. (get m name ≡ Some e) × Tells v name (item name) e × (names ≡ names)) o n is (sym found, subst (λ x. Tells v n (item n) x) same f.2, refl)

-- the places that are left, one place on
pub next-place : {A : Type 0} (xs : List A) (i : ℕ) (x d : A) → i < length xs → x ≡ get_or xs i d → drop i xs ≡ x ∷ drop (suc i) xs
next-place [] i x d h e = absurd (omega arith)
next-place (y ∷ ys) zero x d h e = ap (λ z. z ∷ ys) (sym e)
next-place (y ∷ ys) (suc i) x d h e = next-place ys i x d (omega arith) e

module _ {M : Type 0} where
  -- the items from i on, where they were brought back, are right
  unfoldable pub AreRight : Given → ℕ → Places M → Type 0
  AreRight g i [] = Unit {0}
  AreRight g i (w ∷ ws) = IfSome w (IsRightAt g i) × AreRight g (suc i) ws

  -- an item that was brought back as rendered is stale, and is told by its own name
  named-once : (x : ItemName) (g : Given) (i : ℕ) (w : Option (Work M)) → IfSome w (IsRightAt g i) → times x (name_in w) ≤ times x (if stale g i then name_at g i ∷ [] else [])
  named-once x g i None h = omega arith
  named-once x g i (Some work.Kept) h = omega arith
  named-once x g i (Some (work.New e why)) h =
      let same : why.name ≡ name_at g i = told-named (kept_at g i) (view_at g i) (name_at g i) why h.1 in
      let is : stale g i ≡ true = told-stale (kept_at g i) (view_at g i) (name_at g i) why h.1 in
      let one : times x (why.name ∷ []) ≡ times x (if stale g i then name_at g i ∷ [] else []) = ap (λ n. times x (n ∷ [])) same ∙ ap (λ b. times x (if b then name_at g i ∷ [] else [])) (sym is) in
      omega (arith, one)

  -- the names that workers told of the items from i on are names of stale ones of these
  names-few : (x : ItemName) (g : Given) (i : ℕ) (ws : Places M) → AreRight g i ws → i + length ws ≡ length g.names → times x (names_in ws) ≤ times x (stale_behind g i)
  unfolding AreRight
  names-few x g i [] right count = omega arith
  names-few x g i (w ∷ ws) right count =
      let within : i < length g.names = omega arith in
      let there : drop i g.names ≡ name_at g i ∷ drop (suc i) g.names = drop-next g.names i (name_at g i) (slice_get-get_or g.names i nameless within) in
      let ih : times x (names_in ws) ≤ times x (stale_behind g (suc i)) = names-few x g (suc i) ws right.1 (omega arith) in
      let own : List ItemName = if stale g i then name_at g i ∷ [] else [] in
      let here : times x (name_in w) ≤ times x own = named-once x g i w right.0 in
      let both : times x (name_in w ++ names_in ws) ≡ times x (name_in w) + times x (names_in ws) = times-append x (name_in w) (names_in ws) in
      let all : times x (stale_behind g i) ≡ times x own + times x (stale_behind g (suc i)) = ap (λ ns. times x (stale_in g i ns)) there ∙ times-append x own (stale_behind g (suc i)) in
      omega (arith, ih, here, both, all)

  -- ---- what holds once the items below i were collected

  -- the tally has the names of the stale items below i, and those of the items from i on that workers rendered
  pub record Collected (g : Given) (fixed i : ℕ) (p : Progress) (memo : Entries) (before tally : List ItemName) (left : Places M) : Type 0 where
    pub serial : List ItemName
    pub so_far : SoFar g fixed i p memo before serial
    pub names : (x : ItemName) → times x tally ≡ times x serial + times x (names_in left)
    pub right : AreRight g i left
    pub count : i + length left ≡ length g.names

  module _ (g : Given) (differ : (i j : ℕ) → i < length g.names → slice_get g.names i ≡ slice_get g.names j → i ≡ j) (fixed i : ℕ) (name : ItemName) (there : slice_get g.names i ≡ Some name)
      (p : Progress) (kept : Entries) (before tally tally' : List ItemName) (w : Option (Work M)) (left : Places M) (c : Collected g fixed i p kept before tally (w ∷ left)) where
    -- what was brought back of the item is right over what the collector knows
    pub right-here : IfSome w (IsRight (get kept name) (g.sight i (slice_get p.outs)) name (g.item name))
    unfolding AreRight
    right-here = at w c.right.0
      where
        at : (v : Option (Work M)) → IfSome v (IsRightAt g i) → IfSome v (IsRight (get kept name) (g.sight i (slice_get p.outs)) name (g.item name))
        at None h = h
        at (Some v) h =
            subst (λ (t : Option Kept × View × ItemName). IsRight t.0 t.1 t.2 (g.item t.2) v)
            (λ j. (sym (kept-here g differ fixed i name there p kept before c.serial c.so_far) j, sym (view g differ fixed i name there p kept before c.serial c.so_far) j, sym (named g differ fixed i name there p kept before c.serial c.so_far) j)) h

    abbrev told : List ItemName
    told = why_names (why_of (get kept name) (g.sight i (slice_get p.outs)) name)

    -- the tally with the name of this item
    told-names : tally' ++ name_in w ≡ tally ++ told → (x : ItemName) → times x tally' ≡ times x (c.serial ++ told) + times x (names_in left)
    told-names e x =
        let a : times x (tally' ++ name_in w) ≡ times x tally' + times x (name_in w) = times-append x tally' (name_in w) in
        let b : times x (tally ++ told) ≡ times x tally + times x told = times-append x tally told in
        let same : times x (tally' ++ name_in w) ≡ times x (tally ++ told) = ap (times x) e in
        let d : times x (c.serial ++ told) ≡ times x c.serial + times x told = times-append x c.serial told in
        let n : times x tally ≡ times x c.serial + times x (name_in w ++ names_in left) = c.names x in
        let m : times x (name_in w ++ names_in left) ≡ times x (name_in w) + times x (names_in left) = times-append x (name_in w) (names_in left) in
        omega (arith, a, b, same, d, n, m)

    pub goes-on : (q : Progress) (kept' : Entries) → Turns (g.sight i (slice_get p.outs)) name (g.item name) p q kept kept' tally (tally' ++ name_in w) → Collected g fixed (i + 1) q kept' before tally' left
    unfolding AreRight
    goes-on q kept' t = record {
      serial = c.serial ++ told;
      so_far = goes g differ fixed i name there p kept before c.serial c.so_far q kept' (c.serial ++ told)
          (record { entry = t.entry; tells = t.tells; bytes = t.bytes; outs = t.outs; why = t.why; kept = t.kept; tally = refl });
      names = told-names t.tally;
      right = subst (λ k. AreRight g k left) (sym (add-one i)) c.right.1;
      count = (let n = c.count in omega arith);
    }

    pub ends-here : (fault : SiteFault) (kept' : Entries) → Ends (g.sight i (slice_get p.outs)) name (g.item name) fault p kept kept' tally (tally' ++ name_in w) → IsWorked g fixed (Err (error.Fault fault)) kept' before tally'
    unfolding AreRight stops
    ends-here fault kept' e =
        let end : Ends (g.sight i (slice_get p.outs)) name (g.item name) fault p kept kept' c.serial (c.serial ++ told) = record { outcome = e.outcome; met = e.met; counts = e.counts; kept = e.kept; tally = refl } in (
          c.serial ++ told,
          stops g differ fixed i name there p kept before c.serial c.so_far fault kept' (c.serial ++ told) end,
          λ x. (let n = told-names e.tally x in let few = names-few x g (suc i) left c.right.1 (let m = c.count in omega arith) in (omega (arith, n, few), omega (arith, n, few))),
        )

  pub ended-collecting : (g : Given) (differ : (i j : ℕ) → i < length g.names → slice_get g.names i ≡ slice_get g.names j → i ≡ j) (fixed i : ℕ) (name : ItemName) → slice_get g.names i ≡ Some name
      → (p q : Progress) (kept kept' : Entries) (before tally tally' : List ItemName) (w : Option (Work M)) (left : Places M) (error : RoundError) → Collected g fixed i p kept before tally (w ∷ left)
      → IsTurn (g.sight i (slice_get p.outs)) name (g.item name) (Err error) p q kept kept' tally (tally' ++ name_in w) → IsWorked g fixed (Err error) kept' before tally'
  ended-collecting g differ fixed i name there p q kept kept' before tally tally' w left (error.Fault f) c e = ends-here g differ fixed i name there p kept before tally tally' w left c f kept' e
  ended-collecting g differ fixed i name there p q kept kept' before tally tally' w left error.Memory c e = tt

  -- ---- by places

  -- the next place is looked at
  next-left : (ws vs : Places M) (i : ℕ) (w : Option (Work M)) → slice_get ws i ≡ Some w → vs ≡ set ws i None → drop i ws ≡ w ∷ drop (suc i) vs
  next-left ws vs i w there is = drop-next ws i w there ∙ ap (λ xs. w ∷ xs) (sym (drop-set ws i) ∙ ap (drop (suc i)) (sym is))
    where
      drop-set : (xs : Places M) (i : ℕ) → drop (suc i) (set xs i None) ≡ drop (suc i) xs
      drop-set [] i = refl
      drop-set (x ∷ xs) zero = refl
      drop-set (x ∷ xs) (suc i) = drop-set xs i

  module _ (g : Given) (differ : (i j : ℕ) → i < length g.names → slice_get g.names i ≡ slice_get g.names j → i ≡ j) (fixed i : ℕ) (within : i < length g.names)
      (p : Progress) (kept : Entries) (before tally : List ItemName) (ws vs : Places M) (w : Option (Work M)) (c : Collected g fixed i p kept before tally (drop i ws)) (there : slice_get ws i ≡ Some w) (rest : vs ≡ set ws i None) where
    its-name : slice_get g.names i ≡ Some (get_or g.names i nameless)
    its-name = slice_get-get_or g.names i nameless within

    here : Collected g fixed i p kept before tally (w ∷ drop (suc i) vs)
    here = subst (Collected g fixed i p kept before tally) (next-left ws vs i w there rest) c

    pub right-at : IfSome (slice_get g.names i) (λ name. IfSome w (IsRight (get kept name) (g.sight i (slice_get p.outs)) name (g.item name)))
    right-at = if-some (λ name. IfSome w (IsRight (get kept name) (g.sight i (slice_get p.outs)) name (g.item name))) (slice_get g.names i) (get_or g.names i nameless) its-name
        (right-here g differ fixed i (get_or g.names i nameless) its-name p kept before tally tally w (drop (suc i) vs) here)

    pub went-on : (q : Progress) (kept' : Entries) (tally' : List ItemName) (u : Unit {0}) → IfSome (slice_get g.names i) (λ name. IsTurn (g.sight i (slice_get p.outs)) name (g.item name) (Ok u) p q kept kept' tally (tally' ++ name_in w))
        → Collected g fixed (i + 1) q kept' before tally' (drop (i + 1) vs)
    went-on q kept' tally' u h =
        subst (λ k. Collected g fixed (i + 1) q kept' before tally' (drop k vs)) (sym (add-one i))
        (goes-on g differ fixed i (get_or g.names i nameless) its-name p kept before tally tally' w (drop (suc i) vs) here q kept'
        (of-some (λ name. IsTurn (g.sight i (slice_get p.outs)) name (g.item name) (Ok u) p q kept kept' tally (tally' ++ name_in w)) (slice_get g.names i) (get_or g.names i nameless) its-name h))

    pub ended-at : (q : Progress) (kept' : Entries) (tally' : List ItemName) (error : RoundError) → IfSome (slice_get g.names i) (λ name. IsTurn (g.sight i (slice_get p.outs)) name (g.item name) (Err error) p q kept kept' tally (tally' ++ name_in w))
        → IsWorked g fixed (Err error) kept' before tally'
    ended-at q kept' tally' error h =
        ended-collecting g differ fixed i (get_or g.names i nameless) its-name p q kept kept' before tally tally' w (drop (suc i) vs) error here
        (of-some (λ name. IsTurn (g.sight i (slice_get p.outs)) name (g.item name) (Err error) p q kept kept' tally (tally' ++ name_in w)) (slice_get g.names i) (get_or g.names i nameless) its-name h)

  -- the collector has gone through all items
  pub collected-all : (g : Given) → ((i j : ℕ) → i < length g.names → slice_get g.names i ≡ slice_get g.names j → i ≡ j) → (fixed n : ℕ) (p : Progress) (kept kept' : Entries) (before tally : List ItemName) (left : Places M) (round : Round) → n ≡ length g.names → Collected g fixed n p kept before tally left
      → round.outs ≡ p.outs → round.why ≡ p.why → round.reused + length p.why ≡ length g.names → kept' ≡ of_names g.names kept → IsWorked g fixed (Ok round) kept' before tally
  collected-all g differ fixed n p kept kept' before tally left round all c outs why reused forgets = (
    c.serial,
    whole g differ fixed n p kept kept' before c.serial round all c.so_far outs why reused forgets,
    λ x. (let none : times x (names_in left) ≡ 0 = nothing x left (let m = c.count in omega arith) in let m = c.names x in omega (arith, none, m)),
  )
    where
      nothing : (x : ItemName) (ws : Places M) → length ws ≡ 0 → times x (names_in ws) ≡ 0
      nothing x [] h = refl
      nothing x (w ∷ ws) h = absurd (omega arith)
