-- The order of ranks: two that tie are one.
use Rattle.std.proofs.Common.{◌≡◌, ℕ, ℤ, pos, List, [], Ordering, Less, Equal, Greater, refl, ap, subst}
use Rattle.std.specs.Cmp.{IsTotalOrder}
use Rattle.std.specs.Cmp.Lexicographic.{nat_list_cmp_total, slice_cmp}
use Rattle.std.specs.FinMap.{IsAntisymmetric, int_cmp-IsAntisymmetric, nat_cmp-IsAntisymmetric, slice_cmp-IsAntisymmetric}
use Rattle.std.specs.Ordering.{int_cmp, nat_cmp, ordering_then}
use Rattle.std.proofs.lemmas.Cmp.{int_cmp_total, nat_cmp_total, on_total, then_total}
use Rattle.site_reader.specs.Ranks.{class, key_cmp, place_cmp, rank_cmp}
use Rattle.site_reader.specs.declared.rank.GroupPlace.{GroupPlace}
use Rattle.site_reader.specs.declared.rank.GroupPlace.TheVariants as place
use Rattle.site_reader.specs.declared.rank.Rank.{Rank}
use Rattle.site_reader.specs.declared.sort_key.SortKey.{SortKey}
use Rattle.site_reader.specs.declared.sort_key.SortKey.TheVariants as key
use Rattle.site_reader.specs.contracts.rank.GroupPlaceOrd.TheImpl as places
use Rattle.site_reader.specs.contracts.rank.RankOrd.TheImpl as ranks
use Rattle.site_reader.specs.contracts.sort_key.SortKeyOrd.TheImpl as keys

pub first : (a b : Ordering) → ordering_then a b ≡ Equal → a ≡ Equal
first Less b e = e
first Equal b e = refl
first Greater b e = e

pub later : (a b : Ordering) → ordering_then a b ≡ Equal → b ≡ Equal
later Less b e = absurd (cc (e))
later Equal b e = e
later Greater b e = absurd (cc (e))

-- a place by three keys that are compared one after another
kind_of : GroupPlace → ℕ
kind_of (place.Dated moment) = 0
kind_of place.Undated = 1
kind_of (place.Page name) = 2

moment_of : GroupPlace → ℤ
moment_of (place.Dated moment) = moment
moment_of place.Undated = pos 0
moment_of (place.Page name) = pos 0

name_of : GroupPlace → List ℕ
name_of (place.Dated moment) = []
name_of place.Undated = []
name_of (place.Page name) = name

behind_kind : GroupPlace → GroupPlace → Ordering
behind_kind a b = ordering_then (int_cmp (moment_of a) (moment_of b)) (slice_cmp nat_cmp (name_of a) (name_of b))

then_equal : (o : Ordering) → ordering_then o Equal ≡ o
then_equal Less = refl
then_equal Equal = refl
then_equal Greater = refl

by_keys : (a b : GroupPlace) → ordering_then (nat_cmp (kind_of a) (kind_of b)) (behind_kind a b) ≡ place_cmp a b
unfolding kind_of behind_kind moment_of name_of
by_keys (place.Dated a) (place.Dated b) = then_equal (int_cmp a b)
by_keys (place.Dated a) place.Undated = refl
by_keys (place.Dated a) (place.Page n) = refl
by_keys place.Undated (place.Dated b) = refl
by_keys place.Undated place.Undated = refl
by_keys place.Undated (place.Page n) = refl
by_keys (place.Page m) (place.Dated b) = refl
by_keys (place.Page m) place.Undated = refl
by_keys (place.Page m) (place.Page n) = refl

place_total : IsTotalOrder place_cmp
unfolding behind_kind
place_total =
    subst IsTotalOrder (λ i a b. by_keys a b i)
    (then_total (on_total kind_of nat_cmp_total) (then_total (on_total moment_of int_cmp_total) (on_total name_of nat_list_cmp_total)))

place_same : IsAntisymmetric place_cmp
place_same (place.Dated a) (place.Dated b) e = ap place.Dated (int_cmp-IsAntisymmetric a b e)
place_same (place.Dated a) place.Undated e = absurd (cc (e))
place_same (place.Dated a) (place.Page n) e = absurd (cc (e))
place_same place.Undated (place.Dated b) e = absurd (cc (e))
place_same place.Undated place.Undated e = refl
place_same place.Undated (place.Page n) e = absurd (cc (e))
place_same (place.Page m) (place.Dated b) e = absurd (cc (e))
place_same (place.Page m) place.Undated e = absurd (cc (e))
place_same (place.Page m) (place.Page n) e = ap place.Page (slice_cmp-IsAntisymmetric nat_cmp-IsAntisymmetric m n e)

-- ---- what sorts documents, by four keys that are compared one after another

number_of : SortKey → ℤ
number_of (key.Number n) = n
number_of other = pos 0

listed_at : SortKey → ℕ
listed_at (key.Place n) = n
listed_at other = 0

text_of : SortKey → List ℕ
text_of (key.Text s) = s
text_of other = []

behind_class : SortKey → SortKey → Ordering
behind_class a b = ordering_then (nat_cmp (listed_at a) (listed_at b)) (ordering_then (int_cmp (number_of a) (number_of b)) (slice_cmp nat_cmp (text_of a) (text_of b)))

by_classes : (a b : SortKey) → ordering_then (nat_cmp (class a) (class b)) (behind_class a b) ≡ key_cmp a b
unfolding behind_class number_of listed_at text_of
by_classes (key.Place m) (key.Place n) = then_equal (nat_cmp m n)
by_classes (key.Place m) (key.Number n) = refl
by_classes (key.Place m) (key.Text t) = refl
by_classes (key.Place m) key.Last = refl
by_classes (key.Number m) (key.Place n) = refl
by_classes (key.Number m) (key.Number n) = then_equal (int_cmp m n)
by_classes (key.Number m) (key.Text t) = refl
by_classes (key.Number m) key.Last = refl
by_classes (key.Text s) (key.Place n) = refl
by_classes (key.Text s) (key.Number n) = refl
by_classes (key.Text s) (key.Text t) = refl
by_classes (key.Text s) key.Last = refl
by_classes key.Last (key.Place n) = refl
by_classes key.Last (key.Number n) = refl
by_classes key.Last (key.Text t) = refl
by_classes key.Last key.Last = refl

key_total : IsTotalOrder key_cmp
unfolding behind_class
key_total =
    subst IsTotalOrder (λ i a b. by_classes a b i)
    (then_total (on_total class nat_cmp_total) (then_total (on_total listed_at nat_cmp_total) (then_total (on_total number_of int_cmp_total) (on_total text_of nat_list_cmp_total))))

key_same : IsAntisymmetric key_cmp
key_same (key.Place m) (key.Place n) e = ap key.Place (nat_cmp-IsAntisymmetric m n e)
key_same (key.Place m) (key.Number n) e = absurd (cc (e))
key_same (key.Place m) (key.Text t) e = absurd (cc (e))
key_same (key.Place m) key.Last e = absurd (cc (e))
key_same (key.Number m) (key.Place n) e = absurd (cc (e))
key_same (key.Number m) (key.Number n) e = ap key.Number (int_cmp-IsAntisymmetric m n e)
key_same (key.Number m) (key.Text t) e = absurd (cc (e))
key_same (key.Number m) key.Last e = absurd (cc (e))
key_same (key.Text s) (key.Place n) e = absurd (cc (e))
key_same (key.Text s) (key.Number n) e = absurd (cc (e))
key_same (key.Text s) (key.Text t) e = ap key.Text (slice_cmp-IsAntisymmetric nat_cmp-IsAntisymmetric s t e)
key_same (key.Text s) key.Last e = absurd (cc (e))
key_same key.Last (key.Place n) e = absurd (cc (e))
key_same key.Last (key.Number n) e = absurd (cc (e))
key_same key.Last (key.Text t) e = absurd (cc (e))
key_same key.Last key.Last e = refl

pub rank_total : IsTotalOrder rank_cmp
rank_total =
    then_total (on_total (λ (r : Rank). r.group) nat_cmp_total)
    (then_total (on_total (λ (r : Rank). r.key) key_total) (then_total (on_total (λ (r : Rank). r.place) place_total) (on_total (λ (r : Rank). r.path) nat_list_cmp_total)))

pub rank_same : IsAntisymmetric rank_cmp
rank_same a b e =
    let behind_group = later (nat_cmp a.group b.group) _ e in
    let behind_key = later (key_cmp a.key b.key) _ behind_group in
    let group = nat_cmp-IsAntisymmetric a.group b.group (first _ _ e) in
    let key = key_same a.key b.key (first _ _ behind_group) in
    let place = place_same a.place b.place (first _ _ behind_key) in
    let path = slice_cmp-IsAntisymmetric nat_cmp-IsAntisymmetric a.path b.path (later (place_cmp a.place b.place) _ behind_key) in
    λ i. record { group = group i; key = key i; place = place i; path = path i }

-- the order that the code derives is this one
place_derived : (a b : GroupPlace) → places.cmp-value.it a b ≡ place_cmp a b
place_derived (place.Dated a) (place.Dated b) = refl
place_derived (place.Dated a) place.Undated = refl
place_derived (place.Dated a) (place.Page n) = refl
place_derived place.Undated (place.Dated b) = refl
place_derived place.Undated place.Undated = refl
place_derived place.Undated (place.Page n) = refl
place_derived (place.Page m) (place.Dated b) = refl
place_derived (place.Page m) place.Undated = refl
place_derived (place.Page m) (place.Page n) = refl

key_derived : (a b : SortKey) → keys.cmp-value.it a b ≡ key_cmp a b
key_derived (key.Place m) (key.Place n) = refl
key_derived (key.Place m) (key.Number n) = refl
key_derived (key.Place m) (key.Text t) = refl
key_derived (key.Place m) key.Last = refl
key_derived (key.Number m) (key.Place n) = refl
key_derived (key.Number m) (key.Number n) = refl
key_derived (key.Number m) (key.Text t) = refl
key_derived (key.Number m) key.Last = refl
key_derived (key.Text s) (key.Place n) = refl
key_derived (key.Text s) (key.Number n) = refl
key_derived (key.Text s) (key.Text t) = refl
key_derived (key.Text s) key.Last = refl
key_derived key.Last (key.Place n) = refl
key_derived key.Last (key.Number n) = refl
key_derived key.Last (key.Text t) = refl
key_derived key.Last key.Last = refl

pub rank_derived : ◌≡◌ {A = Rank → Rank → Ordering} ranks.cmp-value.it rank_cmp
rank_derived = λ i a b. ordering_then (nat_cmp a.group b.group) (ordering_then (key_derived a.key b.key i) (ordering_then (place_derived a.place b.place i) (slice_cmp nat_cmp a.path b.path)))
