-- Entries in the order of their paths: what is inserted, and what is found.
use Rattle.std.proofs.Common.{◌≡◌, ◌∙◌, refl, ap, sym, subst, ℕ, Bool, true, false, cond, ◌&&◌, List, [], ◌∷◌, map, Some, option_map, Less, Equal, Greater}
use Rattle.std.specs.Prelude.{T}
use Rattle.std.specs.BTreeMap.{insert_entry, is_at}
use Rattle.std.specs.Cmp.{tied_itself}
use Rattle.std.specs.Cmp.Lexicographic.{nat_list_cmp_total}
use Rattle.std.specs.FinMap.{find, put, is_sorted, nat_cmp-IsAntisymmetric, slice_cmp-IsAntisymmetric}
use Rattle.std.specs.FinMap.Entries.{below_all, by_order, find-put, is_sorted-put, same_entries}
use Rattle.std.specs.Map.{lookup}
use Rattle.std.specs.Ordering.{is_eq, is_lt, match_ordering}
use Rattle.std.specs.declared.cmp.Ordering.{Ordering}
use Rattle.site_base.specs.Places.{path_cmp, same_path}

pub same_path_ties : (k : List ℕ) → path_cmp k k ≡ Equal
same_path_ties k = tied_itself nat_list_cmp_total k

module _ {X : Type 0} where
  -- the second value stands alone
  pub inserted_twice : (es : List (List ℕ × X)) (k : List ℕ) (u v : X) → insert_entry path_cmp (insert_entry path_cmp es k u) k v ≡ insert_entry path_cmp es k v
  inserted_twice [] k u v = rw (same_path_ties k) refl
  inserted_twice (e ∷ es) k u v = by (path_cmp k e.0) refl (inserted_twice es k u v)
    where
      by : (r : Ordering) → path_cmp k e.0 ≡ r → insert_entry path_cmp (insert_entry path_cmp es k u) k v ≡ insert_entry path_cmp es k v
          → insert_entry path_cmp (match_ordering r ((k, u) ∷ e ∷ es) ((e.0, u) ∷ es) (e ∷ insert_entry path_cmp es k u)) k v ≡ match_ordering r ((k, v) ∷ e ∷ es) ((e.0, v) ∷ es) (e ∷ insert_entry path_cmp es k v)
      by Less p later = rw (same_path_ties k) refl
      by Equal p later = rw p refl
      by Greater p later = rw p (ap (λ fs. e ∷ fs) later)

-- ---- by what is found

module _ {X : Type 0} where
  put_is : (es : List (List ℕ × X)) (k : List ℕ) (v : X) → insert_entry path_cmp es k v ≡ put path_cmp k v es
  put_is [] k v = refl
  put_is (e ∷ es) k v = by (path_cmp k e.0) (put_is es k v)
    where
      by : (r : Ordering) → insert_entry path_cmp es k v ≡ put path_cmp k v es
          → match_ordering r ((k, v) ∷ e ∷ es) ((e.0, v) ∷ es) (e ∷ insert_entry path_cmp es k v) ≡ by_order r ((k, v) ∷ e ∷ es) ((e.0, v) ∷ es) (e ∷ put path_cmp k v es)
      by Less h = refl
      by Equal h = refl
      by Greater h = ap (λ fs. e ∷ fs) h

  pub found_inserted : (q k : List ℕ) (v : X) (es : List (List ℕ × X)) → find path_cmp q (insert_entry path_cmp es k v) ≡ cond (same_path q k) (Some v) (find path_cmp q es)
  found_inserted q k v es = ap (find path_cmp q) (put_is es k v) ∙ find-put path_cmp nat_list_cmp_total q k v es

  pub sorted_inserted : (k : List ℕ) (v : X) (es : List (List ℕ × X)) → T (is_sorted path_cmp es) → T (is_sorted path_cmp (insert_entry path_cmp es k v))
  sorted_inserted k v es h = subst (λ fs. T (is_sorted path_cmp fs)) (sym (put_is es k v)) (is_sorted-put path_cmp nat_list_cmp_total k v es h)

  pub lookup_is : (q : List ℕ) (es : List (List ℕ × X)) → lookup (is_at (path_cmp q)) es ≡ find path_cmp q es
  lookup_is q [] = refl
  lookup_is q (e ∷ es) = ap (cond (same_path q e.0) (Some e.1)) (lookup_is q es)

module _ {X Y : Type 0} (f : X → Y) where
  abbrev pub mapped : List (List ℕ × X) → List (List ℕ × Y)
  mapped es = map (λ e. (e.0, f e.1)) es

  below_mapped : (k : List ℕ) (es : List (List ℕ × X)) → below_all path_cmp k (mapped es) ≡ below_all path_cmp k es
  below_mapped k [] = refl
  below_mapped k (e ∷ es) = ap (λ b. is_lt (path_cmp k e.0) && b) (below_mapped k es)

  pub is_sorted_mapped : (es : List (List ℕ × X)) → is_sorted path_cmp (mapped es) ≡ is_sorted path_cmp es
  is_sorted_mapped [] = refl
  is_sorted_mapped (e ∷ es) = ap (λ b. b && is_sorted path_cmp (mapped es)) (below_mapped e.0 es) ∙ ap (λ b. below_all path_cmp e.0 es && b) (is_sorted_mapped es)

  pub sorted_mapped : (es : List (List ℕ × X)) → T (is_sorted path_cmp es) → T (is_sorted path_cmp (mapped es))
  sorted_mapped es h = subst T (sym (is_sorted_mapped es)) h

  pub found_mapped : (q : List ℕ) (es : List (List ℕ × X)) → find path_cmp q (mapped es) ≡ option_map f (find path_cmp q es)
  found_mapped q [] = refl
  found_mapped q (e ∷ es) = by (same_path q e.0) (found_mapped q es)
    where
      by : (b : Bool) → find path_cmp q (mapped es) ≡ option_map f (find path_cmp q es) → cond b (Some (f e.1)) (find path_cmp q (mapped es)) ≡ option_map f (cond b (Some e.1) (find path_cmp q es))
      by true h = refl
      by false h = h

pub same_paths : (p q : List ℕ) → path_cmp p q ≡ Equal → p ≡ q
same_paths = slice_cmp-IsAntisymmetric nat_cmp-IsAntisymmetric

ties : (r : Ordering) → is_eq r ≡ true → r ≡ Equal
ties Less e = absurd (cc (e))
ties Equal e = refl
ties Greater e = absurd (cc (e))

pub tied_paths : (p q : List ℕ) → same_path p q ≡ true → p ≡ q
tied_paths p q e = same_paths p q (ties (path_cmp p q) e)

pub same_path_itself : (q : List ℕ) → same_path q q ≡ true
same_path_itself q = ap is_eq (same_path_ties q)

-- entries whose paths rise are one where all that is found is one
pub same_found : {X : Type 0} (es fs : List (List ℕ × X)) → T (is_sorted path_cmp es) → T (is_sorted path_cmp fs) → ((q : List ℕ) → find path_cmp q es ≡ find path_cmp q fs) → es ≡ fs
same_found es fs s t h = same_entries path_cmp nat_list_cmp_total same_paths es fs s t h
