-- The paths of a list, sorted, are those of the files that it lists.
use Rattle.std.proofs.Common.{◌≡◌, ℕ, ◌+◌, Bool, true, false, List, [], ◌∷◌, get_or, refl, sym, ◌∙◌, ap, subst, arith, Option, Some, None, suc}
use Rattle.std.specs.Prelude.{T, ◌&&◌}
use Rattle.std.specs.declared.cmp.Ordering.TheVariants.{Less, Equal, Greater}
use Rattle.std.specs.declared.cmp.Ordering.{Ordering}
use Rattle.std.specs.Ordering.{is_lt, is_eq, ordering_reverse}
use Rattle.std.specs.Cmp.{eq_by_cmp_equiv}
use Rattle.std.specs.List.{IsDistinct}
use Rattle.std.specs.List.Sorted.{IsPermutation, IsSorted}
use Rattle.std.proofs.lemmas.List.Sorted.{list_any-IsPermutation}
use Rattle.std.proofs.lemmas.Map.Keys.{IsDistinct-IsPermutation}
use Rattle.std.specs.FinMap.{contains_key, contains_key-keys, entries, entries_sorted, is_sorted, keys}
use Rattle.std.specs.FinMap.Entries.{below_all, is_some-find, same_entries}
use Rattle.std.specs.Option.{is_some}
use Rattle.site_base.specs.Clash.{ClashFree}
use Rattle.site_base.specs.Places.{AllDiffer, Files, is_listed, path_cmp, paths_of, same_path}
use Rattle.source_tree.specs.Rise.{Rise, units}
use Rattle.source_tree.proofs.Sums.{o, path_cmp-IsAntisymmetric}

both : (a b : Bool) → a ≡ true → b ≡ true → (a && b) ≡ true
both true b p q = q
both false b p q = p

front_of : (a b : Bool) → (a && b) ≡ true → a ≡ true
front_of true b p = refl
front_of false b p = p

back_of : (a b : Bool) → (a && b) ≡ true → b ≡ true
back_of true b p = p
back_of false b p = absurd (cc (p))

less : (r : Ordering) → is_lt r ≡ true → r ≡ Less
less Less p = refl
less Equal p = absurd (cc (p))
less Greater p = absurd (cc (p))

told : (b : Bool) → T b → b ≡ true
told true h = refl
told false h = absurd h

tell : (b : Bool) → b ≡ true → T b
tell b e = subst T (sym e) tt

-- neither above nor equal
below_rest : (r : Ordering) → is_lt (ordering_reverse r) ≡ false → is_eq r ≡ false → r ≡ Less
below_rest Less p q = refl
below_rest Equal p q = absurd (cc (q))
below_rest Greater p q = absurd (cc (p))

below_less : (x y : List ℕ) (ps : List (List ℕ)) → path_cmp x y ≡ Less → below_all path_cmp y (units ps) ≡ true → below_all path_cmp x (units ps) ≡ true
below_less x y [] p h = refl
below_less x y (z ∷ ps) p h = both _ _ (ap is_lt (o.trans x y z p (less _ (front_of _ _ h)))) (below_less x y ps p (back_of _ _ h))

tail_differs : (x : List ℕ) (ps : List (List ℕ)) → AllDiffer (x ∷ ps) → AllDiffer ps
unfolding IsDistinct
tail_differs x ps d = d.1

two_differ : (x y : List ℕ) (ps : List (List ℕ)) → AllDiffer (x ∷ y ∷ ps) → same_path x y ≡ false
unfolding IsDistinct
two_differ x y ps d = d.0.0

shifted : (x : List ℕ) (ps : List (List ℕ)) → IsSorted path_cmp (x ∷ ps) → IsSorted path_cmp ps
shifted x ps s k e l h =
    let far : is_lt (path_cmp (get_or (x ∷ ps) (suc k + 1) e) (get_or (x ∷ ps) (suc k) e)) ≡ false = s (suc k) e (omega arith) (omega arith) in
    let next : suc k + 1 ≡ suc (k + 1) = omega arith in
    subst (λ (j : ℕ). is_lt (path_cmp (get_or (x ∷ ps) j e) (get_or ps k e)) ≡ false) next far

sorted_rises : (ps : List (List ℕ)) → IsSorted path_cmp ps → AllDiffer ps → Rise ps
sorted_rises [] s d = refl
sorted_rises (x ∷ []) s d = refl
sorted_rises (x ∷ y ∷ ps) s d =
    let rest : Rise (y ∷ ps) = sorted_rises (y ∷ ps) (shifted x (y ∷ ps) s) (tail_differs x (y ∷ ps) d) in
    let apart : path_cmp x y ≡ Less = below_rest _ (ap is_lt (sym (o.antisymm y x)) ∙ s 0 x (omega arith) (omega arith)) (two_differ x y ps d) in
    both _ _ (both _ _ (ap is_lt apart) (below_less x y ps apart (front_of _ _ rest))) rest

module _ {V : Type 0} where
  below_units : (x : List ℕ) (es : List (List ℕ × V)) → below_all path_cmp x (units (paths_of es)) ≡ below_all path_cmp x es
  below_units x [] = refl
  below_units x (e ∷ es) = ap (λ b. is_lt (path_cmp x e.0) && b) (below_units x es)

  -- whether entries rise is a matter of their paths
  pub rise-paths_of : (es : List (List ℕ × V)) → is_sorted path_cmp (units (paths_of es)) ≡ is_sorted path_cmp es
  rise-paths_of [] = refl
  rise-paths_of (e ∷ es) = ap (λ b. b && is_sorted path_cmp (units (paths_of es))) (below_units e.0 es) ∙ ap (λ b. below_all path_cmp e.0 es && b) (rise-paths_of es)

pub first_of_units : (ps : List (List ℕ)) → paths_of (units ps) ≡ ps
first_of_units [] = refl
first_of_units (p ∷ ps) = ap (λ (l : List (List ℕ)). p ∷ l) (first_of_units ps)

-- two looked-up units are equal where both are there or neither is
same_unit : (x y : Option (Unit {0})) → is_some x ≡ is_some y → x ≡ y
same_unit None None e = refl
same_unit None (Some u) e = absurd (cc (e))
same_unit (Some u) None e = absurd (cc (e))
same_unit (Some u) (Some v) e = refl

same_when_rising : (ps qs : List (List ℕ)) → Rise ps → Rise qs → ((q : List ℕ) → is_listed q ps ≡ is_listed q qs) → ps ≡ qs
same_when_rising ps qs rise rise_too listed =
    let same : units ps ≡ units qs = same_entries path_cmp o path_cmp-IsAntisymmetric (units ps) (units qs) (tell _ rise) (tell _ rise_too)
    (λ q. same_unit _ _ (
    is_some-find path_cmp q (units ps) ∙ ap (is_listed q) (first_of_units ps) ∙ listed q
    ∙ ap (is_listed q) (sym (first_of_units qs)) ∙ sym (is_some-find path_cmp q (units qs)))) in
    sym (first_of_units ps) ∙ ap paths_of same ∙ first_of_units qs

pub same_listed : (given paths : List (List ℕ)) (q : List ℕ) → IsPermutation given paths → is_listed q given ≡ is_listed q paths
same_listed given paths q moved = list_any-IsPermutation (same_path q) given paths moved

pub rise : (given paths : List (List ℕ)) → AllDiffer given → IsPermutation given paths → IsSorted path_cmp paths → Rise paths
rise given paths differ moved sorted =
    sorted_rises paths sorted (IsDistinct-IsPermutation same_path (λ x y. (eq_by_cmp_equiv o).symm x y) given paths moved differ)

pub clash_free-sorted : (given paths : List (List ℕ)) → ClashFree given → IsPermutation given paths → ClashFree paths
clash_free-sorted given paths free moved path folder p f = free path folder (same_listed given paths path moved ∙ p) (same_listed given paths folder moved ∙ f)

pub listed : (files : Files) (given paths : List (List ℕ)) → AllDiffer given → ((q : List ℕ) → is_listed q given ≡ contains_key files q) → IsPermutation given paths → IsSorted path_cmp paths → paths ≡ keys files
listed files given paths differ exact moved sorted =
    same_when_rising paths (keys files) (rise given paths differ moved sorted) (rise-paths_of (entries files) ∙ told _ (entries_sorted files))
    (λ q. sym (same_listed given paths q moved) ∙ exact q ∙ contains_key-keys files q)
