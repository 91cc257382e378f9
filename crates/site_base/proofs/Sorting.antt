-- Entries that were sorted by their paths: where these differ, the map is that of the list in any order.
use Rattle.std.proofs.Common.{◌≡◌, ℕ, zero, suc, ◌+◌, ◌<◌, Bool, true, false, cond, List, [], ◌∷◌, length, get_or, refl, sym, ◌∙◌, ap, subst, arith, rules, Option, Some, None}
use Rattle.std.specs.Prelude.{◌&&◌}
use Rattle.std.specs.declared.cmp.Ordering.{Ordering}
use Rattle.std.specs.declared.cmp.Ordering.TheVariants.{Less, Equal, Greater}
use Rattle.std.specs.Ordering.{is_lt, is_eq, ordering_reverse}
use Rattle.std.specs.Cmp.{IsTotalOrder, eq_by_cmp_equiv}
use Rattle.std.specs.Cmp.Lexicographic.{nat_list_cmp_total}
use Rattle.std.specs.List.{Contains}
use Rattle.std.specs.List.Sorted.{IsPermutation, IsSortedBy}
use Rattle.std.proofs.lemmas.List.{get_or-map, length-map}
use Rattle.std.proofs.lemmas.Bool.{cases_lt}
use Rattle.std.proofs.Common.{inl, inr}
use Rattle.std.proofs.lemmas.List.Sorted.{IsPermutation-map, IsPermutation-sym, Contains-permutation}
use Rattle.std.proofs.lemmas.Map.Keys.{IsDistinct-IsPermutation, apart_from_distinct}
use Rattle.std.specs.FinMap.{find, is_sorted, from_sorted, from_entries, same_map, get-from_entries, nat_cmp-IsAntisymmetric, slice_cmp-IsAntisymmetric}
use Rattle.std.specs.FinMap.Entries.{below_all}
use Rattle.std.specs.Map.{lookup}
use Rattle.std.proofs.lemmas.Map.Views.{Contains-from_lookup, lookup-from_Contains}
use Rattle.site_base.specs.Places.{path_cmp, paths_of, PathsRise, same_path, AllDiffer}
use Rattle.site_base.proofs.Entries.{get_mapped, rising_differ}

o : IsTotalOrder path_cmp
o = nat_list_cmp_total

both : (a b : Bool) → a ≡ true → b ≡ true → (a && b) ≡ true
both true b p q = q
both false b p q = p

front_of : (a b : Bool) → (a && b) ≡ true → a ≡ true
front_of true b p = refl
front_of false b p = p

back_of : (a b : Bool) → (a && b) ≡ true → b ≡ true
back_of true b p = p
back_of false b p = absurd (cc (p))

pub less : (r : Ordering) → is_lt r ≡ true → r ≡ Less
less Less p = refl
less Equal p = absurd (cc (p))
less Greater p = absurd (cc (p))

-- neither above nor equal
below_rest : (r : Ordering) → is_lt (ordering_reverse r) ≡ false → is_eq r ≡ false → r ≡ Less
below_rest Less p q = refl
below_rest Equal p q = absurd (cc (q))
below_rest Greater p q = absurd (cc (p))

equal : (r : Ordering) → is_eq r ≡ true → r ≡ Equal
equal Less p = absurd (cc (p))
equal Equal p = refl
equal Greater p = absurd (cc (p))

pub same_key : (x y : List ℕ) → same_path x y ≡ true → x ≡ y
same_key x y t = slice_cmp-IsAntisymmetric nat_cmp-IsAntisymmetric x y (equal _ t)

module _ {V : Type 0} where
  length_paths : (es : List (List ℕ × V)) → length (paths_of es) ≡ length es
  length_paths es = search (rules, length-map)

  pub any_default : (es : List (List ℕ × V)) (i : ℕ) (d x : List ℕ × V) → i < length es → get_or es i d ≡ get_or es i x
  any_default [] i d x lt = absurd (omega arith)
  any_default (e ∷ es) zero d x lt = refl
  any_default (e ∷ es) (suc i) d x lt = any_default es i d x (omega arith)

  -- each path is below the next
  abbrev pub NextAbove : List (List ℕ × V) → ℕ → Type 0
  NextAbove es n = (k : ℕ) (d : List ℕ × V) → suc k < n → path_cmp (get_or es k d).0 (get_or es (suc k) d).0 ≡ Less

  below_less : (x y : List ℕ) (es : List (List ℕ × V)) → path_cmp x y ≡ Less → below_all path_cmp y es ≡ true → below_all path_cmp x es ≡ true
  below_less x y [] p h = refl
  below_less x y (e ∷ es) p h = both _ _ (ap is_lt (o.trans x y e.0 p (less _ (front_of _ _ h)))) (below_less x y es p (back_of _ _ h))

  shifted : (e : List ℕ × V) (es : List (List ℕ × V)) → NextAbove (e ∷ es) (length (e ∷ es)) → NextAbove es (length es)
  shifted e es next k d lt = next (suc k) d (omega arith)

  pub rises_from_next : (es : List (List ℕ × V)) → NextAbove es (length es) → PathsRise es
  rises_from_next [] next = refl
  rises_from_next (e ∷ []) next = refl
  rises_from_next (e ∷ f ∷ es) next =
      let rest : is_sorted path_cmp (f ∷ es) ≡ true = rises_from_next (f ∷ es) (shifted e (f ∷ es) next) in
      let apart : path_cmp e.0 f.0 ≡ Less = next 0 e (omega arith) in
      both _ _ (both _ _ (ap is_lt apart) (below_less e.0 f.0 es apart (front_of _ _ rest))) rest

  pub next_from_rises : (es : List (List ℕ × V)) → PathsRise es → NextAbove es (length es)
  next_from_rises [] s k d lt = absurd (omega arith)
  next_from_rises (e ∷ []) s k d lt = absurd (omega arith)
  next_from_rises (e ∷ f ∷ es) s zero d lt = less _ (front_of _ _ (front_of _ _ s))
  next_from_rises (e ∷ f ∷ es) s (suc k) d lt = next_from_rises (f ∷ es) (back_of _ _ s) k d (omega arith)

  -- the last two places of a longer front
  pub next_above_more : (es : List (List ℕ × V)) (i j : ℕ) (x y : List ℕ × V) → NextAbove es j → j ≡ suc i → j < length es → path_cmp (get_or es i x).0 (get_or es j y).0 ≡ Less → NextAbove es (j + 1)
  next_above_more es i j x y next is bound less_is k d lt =
      elim (cases_lt (suc k) j) [
        | inl below ↦ next k d below
        | inr above ↦
            let last : k ≡ i = omega arith in
            ap (λ (m : ℕ). path_cmp (get_or es m d).0 (get_or es (suc m) d).0) last
            ∙ ap (λ (m : ℕ). path_cmp (get_or es i d).0 (get_or es m d).0) (sym is)
            ∙ ap (λ (e : List ℕ × V). path_cmp e.0 (get_or es j d).0) (any_default es i d x (omega arith))
            ∙ ap (λ (e : List ℕ × V). path_cmp (get_or es i x).0 e.0) (any_default es j d y bound)
            ∙ less_is
      ]

  -- sorted paths that differ rise
  pub rises_from_sorted : (es : List (List ℕ × V)) → IsSortedBy (λ (x y : List ℕ × V). is_lt (path_cmp x.0 y.0)) es → AllDiffer (paths_of es) → PathsRise es
  rises_from_sorted es sorted differ = rises_from_next es (λ k d lt.
      let named : (j : ℕ) → j < length es → get_or (paths_of es) j d.0 ≡ (get_or es j d).0 = λ j h. get_or-map (λ (e : List ℕ × V). e.0) es j d d.0 h in
      let apart : same_path (get_or (paths_of es) k d.0) (get_or (paths_of es) (suc k) d.0) ≡ false =
      apart_from_distinct same_path (paths_of es) k (suc k) d.0 differ (omega arith) (omega (arith, length_paths es)) in
      let here : same_path (get_or es k d).0 (get_or es (suc k) d).0 ≡ false =
      ap (λ (x : List ℕ). same_path x (get_or es (suc k) d).0) (sym (named k (omega arith))) ∙ ap (λ (x : List ℕ). same_path (get_or (paths_of es) k d.0) x) (sym (named (suc k) lt)) ∙ apart in
      let next : k + 1 ≡ suc k = omega arith in
      let unless : is_lt (path_cmp (get_or es (suc k) d).0 (get_or es k d).0) ≡ false = subst (λ (m : ℕ). is_lt (path_cmp (get_or es m d).0 (get_or es k d).0) ≡ false) next (sorted k d (omega arith) (omega arith)) in
      below_rest _ (ap is_lt (sym (o.antisymm (get_or es (suc k) d).0 (get_or es k d).0)) ∙ unless) here)

  -- the entries in another order
  pub differ_moved : (es ss : List (List ℕ × V)) → IsPermutation es ss → AllDiffer (paths_of es) → AllDiffer (paths_of ss)
  differ_moved es ss moved = IsDistinct-IsPermutation same_path (λ x y. (eq_by_cmp_equiv o).symm x y) (paths_of es) (paths_of ss) (IsPermutation-map (λ (e : List ℕ × V). e.0) es ss moved)

  pub differ_sorted : (es ss : List (List ℕ × V)) → IsPermutation es ss → PathsRise ss → AllDiffer (paths_of es)
  differ_sorted es ss moved rises = differ_moved ss es (IsPermutation-sym es ss moved) (rising_differ ss rises)

  find_lookup : (q : List ℕ) (es : List (List ℕ × V)) → find path_cmp q es ≡ lookup (same_path q) es
  find_lookup q [] = refl
  find_lookup q (e ∷ es) = ap (λ (x : Option V). cond (is_eq (path_cmp q e.0)) (Some e.1) x) (find_lookup q es)

  -- entries whose paths differ are found alike in every order
  find_moved : (es ss : List (List ℕ × V)) (q : List ℕ) (v : V) → IsPermutation es ss → AllDiffer (paths_of ss) → find path_cmp q es ≡ Some v → find path_cmp q ss ≡ Some v
  find_moved es ss q v moved differ is =
      let there : Contains es (q, v) = Contains-from_lookup same_key q v es (sym (find_lookup q es) ∙ is) in
      find_lookup q ss ∙ lookup-from_Contains (eq_by_cmp_equiv o) q v ss differ (Contains-permutation es ss (q, v) moved there)

  found_alike : (es ss : List (List ℕ × V)) (q : List ℕ) (x y : Option V) → IsPermutation es ss → AllDiffer (paths_of es) → AllDiffer (paths_of ss) → find path_cmp q es ≡ x → find path_cmp q ss ≡ y → x ≡ y
  found_alike es ss q None None moved d e p r = refl
  found_alike es ss q (Some v) y moved d e p r = sym (find_moved es ss q v moved e p) ∙ r
  found_alike es ss q None (Some v) moved d e p r = sym p ∙ find_moved ss es q v (IsPermutation-sym es ss moved) d r

  pub map_moved : (es ss : List (List ℕ × V)) → IsPermutation es ss → PathsRise ss → from_sorted {R = path_cmp} ss ≡ from_entries es
  map_moved es ss moved rises =
      let differ : AllDiffer (paths_of es) = differ_sorted es ss moved rises in
      same_map o (slice_cmp-IsAntisymmetric nat_cmp-IsAntisymmetric) _ _ (λ q.
      get_mapped ss q rises ∙ sym (found_alike es ss q _ _ moved differ (rising_differ ss rises) refl refl) ∙ sym (get-from_entries o es q))

  -- the test of a loop that stopped
  pub no_rise : (es : List (List ℕ × V)) (i j : ℕ) (x y : List ℕ × V) (b : Bool) → j ≡ suc i → j < length es → b ≡ is_lt (path_cmp (get_or es i x).0 (get_or es j y).0) → b ≡ false → PathsRise es → ⊥
  no_rise es i j x y b is lt test not_less rises =
      let less_is : path_cmp (get_or es i x).0 (get_or es (suc i) x).0 ≡ Less = next_from_rises es rises i x (omega arith) in
      let here : path_cmp (get_or es i x).0 (get_or es j y).0 ≡ Less =
      ap (λ (e : List ℕ × V). path_cmp (get_or es i x).0 e.0) (any_default es j y x lt) ∙ ap (λ (m : ℕ). path_cmp (get_or es i x).0 (get_or es m x).0) is ∙ less_is in
      cc (ap is_lt here, test, not_less)
