-- How many bytes files have together after an edit.
use Rattle.std.proofs.Common.{◌≡◌, ℕ, ◌+◌, ◌≤◌, Bool, true, false, cond, List, [], ◌∷◌, length, refl, subst, sym, ap, ◌∙◌, arith, Option, Some, None}
use Rattle.std.proofs.lemmas.List.Sums.{sum_by-cons}
use Rattle.std.specs.Prelude.{T, ◌&&◌}
use Rattle.std.specs.declared.cmp.Ordering.{Ordering}
use Rattle.std.specs.declared.cmp.Ordering.TheVariants.{Less, Equal, Greater}
use Rattle.std.specs.Ordering.{is_lt, is_eq}
use Rattle.std.specs.Cmp.{IsTotalOrder, tied_itself}
use Rattle.std.specs.Cmp.Lexicographic.{nat_list_cmp_total}
use Rattle.std.specs.FinMap.{entries, entries-insert, entries_sorted, find, get, get-entries, get-insert, get-remove, insert, is_sorted, put, remove, same_map, nat_cmp-IsAntisymmetric, slice_cmp-IsAntisymmetric, IsAntisymmetric}
use Rattle.std.specs.FinMap.Entries.{below_all, by_order}
use Rattle.site_base.specs.Places.{path_cmp, Files, same_path}
use Rattle.source_tree.specs.Limits.{bytes_of, length_at, length_or_zero, site_bytes}

pub o : IsTotalOrder path_cmp
o = nat_list_cmp_total

pub path_cmp-IsAntisymmetric : IsAntisymmetric path_cmp
path_cmp-IsAntisymmetric = slice_cmp-IsAntisymmetric nat_cmp-IsAntisymmetric

front_of : (a b : Bool) → T (a && b) → T a
front_of true b p = tt
front_of false b p = absurd p

back_of : (a b : Bool) → T (a && b) → T b
back_of true b p = p
back_of false b p = absurd p

less : (r : Ordering) → T (is_lt r) → r ≡ Less
less Less p = refl
less Equal p = absurd p
less Greater p = absurd p

abbrev File : Type 0
File = List ℕ × List ℕ

-- a path below all others stands nowhere
find_below : (k : List ℕ) (es : List File) → T (below_all path_cmp k es) → find path_cmp k es ≡ None
find_below k [] h = refl
find_below k (e ∷ es) h = ap (λ r. cond (is_eq r) (Some e.1) (find path_cmp k es)) (less _ (front_of _ _ h)) ∙ find_below k es (back_of _ _ h)

below_less : (x y : List ℕ) (es : List File) → path_cmp x y ≡ Less → T (below_all path_cmp y es) → T (below_all path_cmp x es)
below_less x y [] p h = tt
below_less x y (e ∷ es) p h = join _ _ (subst (λ r. T (is_lt r)) (sym (o.trans x y e.0 p (less _ (front_of _ _ h)))) tt) (below_less x y es p (back_of _ _ h))
  where
    join : (a b : Bool) → T a → T b → T (a && b)
    join true b p q = q
    join false b p q = p

pub bytes_of-cons : (e : File) (es : List File) → bytes_of (e ∷ es) ≡ length e.1 + bytes_of es
bytes_of-cons e es = sum_by-cons (λ (f : File). length f.1) e es

bytes_of-put : (k v : List ℕ) (es : List File) → T (is_sorted path_cmp es) → bytes_of (put path_cmp k v es) + length_or_zero (find path_cmp k es) ≡ bytes_of es + length v
bytes_of-put k v [] h = let one = bytes_of-cons (k, v) [] in omega (arith, one)
bytes_of-put k v (e ∷ es) h =
    elim (path_cmp k e.0) as (λ r. path_cmp k e.0 ≡ r → bytes_of (by_order r ((k, v) ∷ e ∷ es) ((e.0, v) ∷ es) (e ∷ put path_cmp k v es)) + length_or_zero (cond (is_eq r) (Some e.1) (find path_cmp k es)) ≡ bytes_of (e ∷ es) + length v) [
      | Less ↦ λ p.
          let none : find path_cmp k es ≡ None = find_below k es (below_less k e.0 es p (front_of _ _ h)) in
          let zero_there : length_or_zero (find path_cmp k es) ≡ 0 = ap length_or_zero none in
          omega (arith, bytes_of-cons (k, v) (e ∷ es), zero_there)
      | Equal ↦ λ p. omega (arith, bytes_of-cons (e.0, v) es, bytes_of-cons e es)
      | Greater ↦ λ p. omega (arith, bytes_of-cons e (put path_cmp k v es), bytes_of-cons e es, bytes_of-put k v es (back_of _ _ h))
    ] refl

pub site_bytes-insert : (m : Files) (k v : List ℕ) → site_bytes (insert m k v) + length_at m k ≡ site_bytes m + length v
site_bytes-insert m k v =
    ap (λ (n : ℕ). n + length_at m k) (ap bytes_of (entries-insert o m k v))
    ∙ ap (λ (n : ℕ). bytes_of (put path_cmp k v (entries m)) + n) (ap length_or_zero (get-entries m k))
    ∙ bytes_of-put k v (entries m) (entries_sorted m)

pub equal : (r : Ordering) → is_eq r ≡ true → r ≡ Equal
equal Equal p = refl
equal Less p = absurd (cc (p))
equal Greater p = absurd (cc (p))

pub at_removed : (m : Files) (k : List ℕ) (v : List ℕ) → get m k ≡ Some v → insert (remove m k) k v ≡ m
at_removed m k v is = same_map o path_cmp-IsAntisymmetric _ _ (λ q.
    get-insert o (remove m k) k v q ∙ ap (cond (same_path q k) (Some v)) (get-remove o m k q) ∙ by q (same_path q k) refl)
  where
    by : (q : List ℕ) (b : Bool) → same_path q k ≡ b → cond b (Some v) (cond b None (get m q)) ≡ get m q
    by q true e = sym is ∙ ap (get m) (sym (path_cmp-IsAntisymmetric q k (equal _ e)))
    by q false e = refl

pub get_removed : (m : Files) (k : List ℕ) → get (remove m k) k ≡ None
get_removed m k = get-remove o m k k ∙ ap (λ (b : Bool). cond b None (get m k)) (same k)
  where
    same : (k : List ℕ) → same_path k k ≡ true
    same k = ap is_eq (tied_itself o k)

pub site_bytes-remove : (m : Files) (k : List ℕ) → site_bytes (remove m k) + length_at m k ≡ site_bytes m
site_bytes-remove m k = by (get m k) refl
  where
    by : (there : Option (List ℕ)) → get m k ≡ there → site_bytes (remove m k) + length_at m k ≡ site_bytes m
    by None is =
        let same : remove m k ≡ m = same_map o path_cmp-IsAntisymmetric _ _ (λ q. get-remove o m k q ∙ kept q (same_path q k) refl) in
        let zero_there : length_at m k ≡ 0 = ap length_or_zero is in
        let bytes : site_bytes (remove m k) ≡ site_bytes m = ap site_bytes same in
        omega (arith, zero_there, bytes)
      where
        kept : (q : List ℕ) (b : Bool) → same_path q k ≡ b → cond b None (get m q) ≡ get m q
        kept q true e = sym is ∙ ap (get m) (sym (path_cmp-IsAntisymmetric q k (equal _ e)))
        kept q false e = refl
    by (Some v) is =
        let again : site_bytes (insert (remove m k) k v) ≡ site_bytes m = ap site_bytes (at_removed m k v is) in
        let zero_there : length_at (remove m k) k ≡ 0 = ap length_or_zero (get_removed m k) in
        let there : length_at m k ≡ length v = ap length_or_zero is in
        omega (arith, again, zero_there, there, site_bytes-insert (remove m k) k v)

pub length_at-le : (m : Files) (k : List ℕ) → length_at m k ≤ site_bytes m
length_at-le m k = omega (arith, site_bytes-remove m k)
