-- Keys stand in a total order, so that a sort of std finds the definition's.
use Rattle.std.proofs.Common.{◌≡◌, ℕ, ℤ, pos, List, [], refl, sym, subst, Bor}
use Rattle.std.specs.Cmp.{IsTotalOrder}
use Rattle.std.specs.Cmp.Lexicographic.{slice_cmp}
use Rattle.std.specs.Ordering.{nat_cmp, int_cmp, ordering_then, is_lt}
use Rattle.std.specs.declared.cmp.Ordering.{Ordering}
use Rattle.std.specs.declared.cmp.Ordering.TheVariants.{Less, Equal, Greater}
use Rattle.std.specs.Fn.{Called, Mut}
use Rattle.std.specs.List.Sorted.{IsSortedByClosure, IsStableByClosure}
use Rattle.std.proofs.lemmas.Cmp.{on_total, then_total, nat_cmp_total, int_cmp_total, nat_list_cmp_total}
use Rattle.site_base.specs.Plain.{Plain, int, text}
use Rattle.site_base.specs.StableSort.{stable_sort}
use Rattle.list_filters.specs.KeyOrder.{key_order, rank}
use Rattle.list_filters.specs.declared.key_order.NilPlace.{NilPlace}
use Rattle.list_filters.specs.declared.key_order.NilPlace.TheVariants.{First, Last}
use Rattle.site_base.proofs.SortLaws.{sorted_by}

-- what of a key is compared
abbrev number_in : Plain → ℤ
number_in (int n) = n
number_in v = pos 0

abbrev words_in : Plain → List ℕ
words_in (text t) = t
words_in v = []

abbrev by_parts : NilPlace → Plain → Plain → Ordering
by_parts nils k l = ordering_then (nat_cmp (rank nils k) (rank nils l)) (ordering_then (int_cmp (number_in k) (number_in l)) (slice_cmp nat_cmp (words_in k) (words_in l)))

then_equal : (o : Ordering) → o ≡ ordering_then o Equal
then_equal Less = refl
then_equal Equal = refl
then_equal Greater = refl

same_order : (nils : NilPlace) (k l : Plain) → key_order nils k l ≡ by_parts nils k l
same_order nils (int n) (int m) = then_equal (int_cmp n m)
same_order First k (int m) = refl
same_order First k l = refl
same_order Last k (int m) = refl
same_order Last k l = refl

parts_total : (nils : NilPlace) → IsTotalOrder (by_parts nils)
parts_total nils = then_total (on_total (rank nils) nat_cmp_total) (then_total (on_total number_in int_cmp_total) (on_total words_in nat_list_cmp_total))

pub key_total : (nils : NilPlace) → IsTotalOrder (key_order nils)
key_total nils = subst (λ (R : Plain → Plain → Ordering). IsTotalOrder R) (λ i k l. sym (same_order nils k l) i) (parts_total nils)

-- what a stable sort by keys leaves
pub sorted_by_key : {X F : Type 0} {g : Mut F (Bor X × (Bor X × Unit {0})) Ordering} {f : F} (nils : NilPlace) (key : X → Plain) (xs ys : List X)
    → IsSortedByClosure g f ys → IsStableByClosure g f xs ys
    → ((a : Bor X × (Bor X × Unit {0})) (r : Ordering) (h : F) → Called g f a r h → (r ≡ key_order nils (key a.0.now) (key a.1.0.now)) × (h ≡ f))
    → ys ≡ stable_sort (λ x y. is_lt (key_order nils (key x) (key y))) xs
sorted_by_key nils key xs ys up stable calls = sorted_by (key_order nils) (key_total nils) key xs ys up stable calls
