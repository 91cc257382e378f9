-- A stable sort has one result.
use Rattle.std.proofs.Common.{◌≡◌, ℕ, suc, ◌+◌, ◌<◌, Bool, true, false, cond, not, ◌&&◌, List, [], ◌∷◌, length, get_or, map, refl, sym, ap, ◌∙◌, subst, arith, Bor}
use Rattle.std.specs.Cmp.{IsStrictWeakOrder, IsTotalOrder}
use Rattle.std.specs.Fn.{Called, ComparesAs, Mut}
use Rattle.std.specs.List.{filter}
use Rattle.std.specs.List.Sorted.{IsSortedBy, IsSortedByClosure, IsStableBy, IsStableByClosure, ties}
use Rattle.std.specs.Ordering.{is_lt}
use Rattle.std.specs.declared.cmp.Ordering.{Ordering}
use Rattle.std.proofs.lemmas.Fn.{always_returns_same}
use Rattle.std.proofs.lemmas.List.Sorted.{ranks_by, sorted_far}
use Rattle.site_base.specs.StableSort.{inserted, stable_sort}

module _ {X : Type 0} (lt : X → X → Bool) (o : IsStrictWeakOrder lt) where
  itself : (x : X) → lt x x ≡ false
  itself x = go (lt x x) refl
    where
      go : (b : Bool) → lt x x ≡ b → lt x x ≡ false
      go true e = o.one_way x x e
      go false e = e

  -- none of these is below
  abbrev Least : X → List X → Type 0
  Least x [] = Unit {0}
  Least x (y ∷ ys) = (lt y x ≡ false) × Least x ys

  abbrev Rises : List X → Type 0
  Rises [] = Unit {0}
  Rises (x ∷ xs) = Least x xs × Rises xs

  -- ---- the sort of the definition

  least_inserted : (x y : X) (ys : List X) → lt x y ≡ false → Least y ys → Least y (inserted lt x ys)
  least_inserted x y [] above h = (above, tt)
  least_inserted x y (z ∷ zs) above h =
      elim (lt z x) as (λ b. Least y (cond b (z ∷ inserted lt x zs) (x ∷ z ∷ zs))) [ true ↦ (h.0, least_inserted x y zs above h.1) | false ↦ (above, h) ]

  least_through : (x y : X) (ys : List X) → lt y x ≡ false → Least y ys → Least x ys
  least_through x y [] above h = tt
  least_through x y (z ∷ zs) above h = (o.chain z y x h.0 above, least_through x y zs above h.1)

  rises_inserted : (x : X) (ys : List X) → Rises ys → Rises (inserted lt x ys)
  rises_inserted x [] h = (tt, tt)
  rises_inserted x (y ∷ ys) h = go (lt y x) refl (rises_inserted x ys h.1)
    where
      go : (b : Bool) → lt y x ≡ b → Rises (inserted lt x ys) → Rises (cond b (y ∷ inserted lt x ys) (x ∷ y ∷ ys))
      go true e ih = (least_inserted x y ys (o.one_way y x e) h.0, ih)
      go false e ih = ((e, least_through x y ys e h.0), h)

  rises_sorted : (xs : List X) → Rises (stable_sort lt xs)
  rises_sorted [] = tt
  rises_sorted (x ∷ xs) = rises_inserted x (stable_sort lt xs) (rises_sorted xs)

  both : (b c : Bool) → (not b && not c) ≡ true → (b ≡ false) × (c ≡ false)
  both false false e = (refl, refl)
  both false true e = cc
  both true c e = cc

  -- of two that tie with one value none is below the other
  no_tie : (w x y : X) → ties lt w x ≡ true → ties lt w y ≡ true → lt y x ≡ false
  no_tie w x y p q = o.chain y w x (both _ _ q).1 (both _ _ p).0

  keeps_inserted : (w x : X) (ys : List X) → filter (ties lt w) (inserted lt x ys) ≡ filter (ties lt w) (x ∷ ys)
  keeps_inserted w x [] = refl
  keeps_inserted w x (y ∷ ys) = go (lt y x) refl (ties lt w x) refl (ties lt w y) refl (keeps_inserted w x ys)
    where
      go : (b : Bool) → lt y x ≡ b → (p : Bool) → ties lt w x ≡ p → (q : Bool) → ties lt w y ≡ q → filter (ties lt w) (inserted lt x ys) ≡ cond p (x ∷ filter (ties lt w) ys) (filter (ties lt w) ys) →
          filter (ties lt w) (cond b (y ∷ inserted lt x ys) (x ∷ y ∷ ys)) ≡ cond p (x ∷ cond q (y ∷ filter (ties lt w) ys) (filter (ties lt w) ys)) (cond q (y ∷ filter (ties lt w) ys) (filter (ties lt w) ys))
      go false e p f q g ih = rw (f, g) refl
      go true e true f true g ih = absurd (cc (no_tie w x y f g))
      go true e true f false g ih = rw g ih
      go true e false f true g ih = rw g (ap (λ (zs : List X). y ∷ zs) ih)
      go true e false f false g ih = rw g ih

  keeps_sorted : (w : X) (xs : List X) → filter (ties lt w) (stable_sort lt xs) ≡ filter (ties lt w) xs
  keeps_sorted w [] = refl
  keeps_sorted w (x ∷ xs) = keeps_inserted w x (stable_sort lt xs) ∙ ap (λ (zs : List X). cond (ties lt w x) (x ∷ zs) zs) (keeps_sorted w xs)

  -- ---- there is one

  tie_itself : (x : X) → ties lt x x ≡ true
  tie_itself x = rw (itself x) refl

  in_least : (p : X → Bool) (z y : X) (zs rest : List X) → Least z zs → filter p zs ≡ y ∷ rest → lt y z ≡ false
  in_least p z y [] rest h e = cc
  in_least p z y (u ∷ us) rest h e = go (p u) e (in_least p z y us rest h.1)
    where
      go : (b : Bool) → cond b (u ∷ filter p us) (filter p us) ≡ y ∷ rest → (filter p us ≡ y ∷ rest → lt y z ≡ false) → lt y z ≡ false
      go true f ih = let same : u ≡ y = cc in subst (λ (v : X). lt v z ≡ false) same h.0
      go false f ih = ih f

  -- what passes a test first is not below the first
  first_least : (p : X → Bool) (z y : X) (zs rest : List X) → Least z zs → filter p (z ∷ zs) ≡ y ∷ rest → lt y z ≡ false
  first_least p z y zs rest h e = go (p z) e
    where
      go : (b : Bool) → cond b (z ∷ filter p zs) (filter p zs) ≡ y ∷ rest → lt y z ≡ false
      go true f = let same : z ≡ y = cc in subst (λ (v : X). lt v z ≡ false) same (itself z)
      go false f = in_least p z y zs rest h f

  own_first : (y : X) (ys : List X) → filter (ties lt y) (y ∷ ys) ≡ y ∷ filter (ties lt y) ys
  own_first y ys = rw (tie_itself y) refl

  without_first : (p : X → Bool) (y z : X) (ys zs : List X) → y ≡ z → filter p (y ∷ ys) ≡ filter p (z ∷ zs) → filter p ys ≡ filter p zs
  without_first p y z ys zs same e = go (p z) (subst (λ (v : X). filter p (v ∷ ys) ≡ filter p (z ∷ zs)) same e)
    where
      go : (b : Bool) → cond b (z ∷ filter p ys) (filter p ys) ≡ cond b (z ∷ filter p zs) (filter p zs) → filter p ys ≡ filter p zs
      go true f = cc
      go false f = f

  first_same : (y z : X) (ys zs : List X) → Least y ys → Least z zs → ((x : X) → filter (ties lt x) (y ∷ ys) ≡ filter (ties lt x) (z ∷ zs)) → y ≡ z
  first_same y z ys zs h g same =
      let up : lt y z ≡ false = first_least (ties lt y) z y zs (filter (ties lt y) ys) g (sym (same y) ∙ own_first y ys) in
      let down : lt z y ≡ false = first_least (ties lt z) y z ys (filter (ties lt z) zs) h (same z ∙ own_first z zs) in
      let tie : ties lt y z ≡ true = rw (up, down) refl in
      let e : y ∷ filter (ties lt y) ys ≡ z ∷ filter (ties lt y) zs = sym (own_first y ys) ∙ same y ∙ ap (λ b. cond b (z ∷ filter (ties lt y) zs) (filter (ties lt y) zs)) tie in
      cc

  one : (ys zs : List X) → Rises ys → Rises zs → ((x : X) → filter (ties lt x) ys ≡ filter (ties lt x) zs) → ys ≡ zs
  one [] [] h g same = refl
  one [] (z ∷ zs) h g same = let e : [] ≡ z ∷ filter (ties lt z) zs = same z ∙ own_first z zs in cc
  one (y ∷ ys) [] h g same = let e : [] ≡ y ∷ filter (ties lt y) ys = sym (same y) ∙ own_first y ys in cc
  one (y ∷ ys) (z ∷ zs) h g same =
      let first : y ≡ z = first_same y z ys zs h.0 g.0 same in
      let rest : ys ≡ zs = one ys zs h.1 g.1 (λ x. without_first (ties lt x) y z ys zs first (same x)) in
      cc

  -- ---- what a sort of std ensures

  least_from : (x : X) (ys : List X) → ((k : ℕ) (d : X) → k < length ys → lt (get_or ys k d) x ≡ false) → Least x ys
  least_from x [] h = tt
  least_from x (y ∷ ys) h = (h 0 y (omega arith), least_from x ys (λ k d lt. h (suc k) d (omega arith)))

  tail_sorted : (y : X) (ys : List X) → IsSortedBy lt (y ∷ ys) → IsSortedBy lt ys
  tail_sorted y ys up k d le lt_len =
      let next : suc k + 1 ≡ suc (k + 1) = omega arith in
      subst (λ (n : ℕ). lt (get_or (y ∷ ys) n d) (get_or (y ∷ ys) (suc k) d) ≡ false) next (up (suc k) d (omega arith) (omega arith))

  rises_from : (ys : List X) → IsSortedBy lt ys → Rises ys
  rises_from [] up = tt
  rises_from (y ∷ ys) up =
      (least_from y ys (λ k d lt_len. sorted_far lt o (y ∷ ys) up 0 (suc k) d (omega arith) (omega arith)), rises_from ys (tail_sorted y ys up))

  pub sort_is : (xs ys : List X) → IsSortedBy lt ys → IsStableBy lt xs ys → ys ≡ stable_sort lt xs
  sort_is xs ys up stable = one ys (stable_sort lt xs) (rises_from ys up) (rises_sorted xs) (λ x. stable x ∙ sym (keeps_sorted x xs))

-- ---- a sort by what is seen of each

module _ {X Y : Type 0} (seen : X → Y) (below : Y → Y → Bool) where
  seen_inserted : (x : X) (ys : List X) → map seen (inserted (λ a b. below (seen a) (seen b)) x ys) ≡ inserted below (seen x) (map seen ys)
  seen_inserted x [] = refl
  seen_inserted x (y ∷ ys) =
      elim (below (seen y) (seen x)) as (λ b. map seen (cond b (y ∷ inserted (λ a c. below (seen a) (seen c)) x ys) (x ∷ y ∷ ys)) ≡ cond b (seen y ∷ inserted below (seen x) (map seen ys)) (seen x ∷ seen y ∷ map seen ys))
      [ true ↦ ap (λ (zs : List Y). seen y ∷ zs) (seen_inserted x ys) | false ↦ refl ]

  pub seen_sorted : (xs : List X) → map seen (stable_sort (λ a b. below (seen a) (seen b)) xs) ≡ stable_sort below (map seen xs)
  seen_sorted [] = refl
  seen_sorted (x ∷ xs) = seen_inserted x (stable_sort (λ a b. below (seen a) (seen b)) xs) ∙ ap (inserted below (seen x)) (seen_sorted xs)

-- what a stable sort by keys leaves
pub sorted_by : {X Y F : Type 0} {g : Mut F (Bor X × (Bor X × Unit {0})) Ordering} {f : F} (order : Y → Y → Ordering) → IsTotalOrder order → (key : X → Y) (xs ys : List X)
    → IsSortedByClosure g f ys → IsStableByClosure g f xs ys
    → ((a : Bor X × (Bor X × Unit {0})) (r : Ordering) (h : F) → Called g f a r h → (r ≡ order (key a.0.now) (key a.1.0.now)) × (h ≡ f))
    → ys ≡ stable_sort (λ x y. is_lt (order (key x) (key y))) xs
sorted_by {X} {Y} {F} {g} {f} order total key xs ys up stable calls =
    let below : X → X → Bool = λ x y. is_lt (order (key x) (key y)) in
    let ranks : IsStrictWeakOrder below = ranks_by total key in
    let by : ComparesAs g below f = always_returns_same g (λ a r. is_lt r ≡ below a.0.now a.1.0.now) f (λ a r h called. (ap is_lt (calls a r h called).0, (calls a r h called).1)) in
    sort_is below ranks xs ys (up below ranks by) (stable below ranks by)
