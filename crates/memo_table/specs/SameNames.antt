-- That the order of names tells them apart.
use Rattle.std.specs.Prelude.{◌≡◌, true, ◌∷◌, refl, IsTrue}
use Rattle.std.specs.Cmp.{IsEquivalence, IsTotalOrder}
use Rattle.std.specs.FinMap.{IsAntisymmetric, nat_cmp-IsAntisymmetric, slice_cmp-IsAntisymmetric}
use Rattle.std.specs.Hash as fed
use Rattle.std.specs.Ordering.{ordering_then, is_eq}
use Rattle.std.specs.declared.cmp.Ordering.{Ordering}
use Rattle.std.specs.declared.cmp.Ordering.TheVariants.{Less, Equal, Greater}
use Rattle.std.proofs.Common.{ap}
use Rattle.std.proofs.lemmas.Cmp.{on_total, then_total, on_equiv, eq_by_cmp_equiv, tied_itself, nat_cmp_total}
use Rattle.std.specs.Cmp.Lexicographic.{nat_list_cmp_total}
use Rattle.site_base.specs.declared.item_name.ItemName.{ItemName}
use Rattle.memo_table.specs.declared.name_key.NameKey.{NameKey}
use Rattle.memo_table.specs.Names.{name_cmp, same_name}
use Rattle.memo_table.specs.NameKeys.{name_of, same_key, key_writes}

pub name_cmp_total : IsTotalOrder name_cmp
name_cmp_total = then_total (on_total (λ (n : ItemName). n.path) nat_list_cmp_total) (on_total (λ (n : ItemName). n.part) nat_cmp_total)

both_tied : (a b : Ordering) → ordering_then a b ≡ Equal → (a ≡ Equal) × (b ≡ Equal)
both_tied Less b h = cc
both_tied Equal b h = (refl, h)
both_tied Greater b h = cc

-- names that tie are one
pub name_cmp-IsAntisymmetric : IsAntisymmetric name_cmp
name_cmp-IsAntisymmetric a b h =
    let tied = both_tied _ _ h in
    let path : a.path ≡ b.path = slice_cmp-IsAntisymmetric nat_cmp-IsAntisymmetric a.path b.path tied.0 in
    let part : a.part ≡ b.part = nat_cmp-IsAntisymmetric a.part b.part tied.1 in
    λ i. record { path = path i; part = part i }

tied : (o : Ordering) → is_eq o ≡ true → o ≡ Equal
tied Less h = cc
tied Equal h = refl
tied Greater h = cc

pub same_name-eq : (a b : ItemName) → same_name a b ≡ true → a ≡ b
same_name-eq a b h = name_cmp-IsAntisymmetric a b (tied _ h)

pub same_name-refl : (a : ItemName) → same_name a a ≡ true
same_name-refl a = ap is_eq (tied_itself name_cmp_total a)

pub same_key-equiv : IsEquivalence same_key
same_key-equiv = on_equiv name_of (eq_by_cmp_equiv name_cmp_total)

pub key_writes-same : (a b : NameKey) → IsTrue (same_key a b) → key_writes a ≡ key_writes b
key_writes-same a b h = ap (λ (n : ItemName). n.path ∷ fed.u32 n.part) (same_name-eq (name_of a) (name_of b) h)
