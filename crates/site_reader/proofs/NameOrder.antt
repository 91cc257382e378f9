-- The order of names, by path and then by part.
use Rattle.std.proofs.Common.{◌≡◌, Ordering}
use Rattle.std.specs.Cmp.{IsTotalOrder}
use Rattle.std.specs.Cmp.Lexicographic.{nat_list_cmp_total}
use Rattle.std.specs.FinMap.{IsAntisymmetric, nat_cmp-IsAntisymmetric, slice_cmp-IsAntisymmetric}
use Rattle.std.specs.Ordering.{nat_cmp, ordering_then}
use Rattle.std.proofs.lemmas.Cmp.{nat_cmp_total, on_total, then_total}
use Rattle.site_base.specs.Places.{path_cmp}
use Rattle.site_base.specs.contracts.item_name.ItemNameOrd.TheImpl as names
use Rattle.site_base.specs.declared.item_name.ItemName.{ItemName}
use Rattle.site_reader.specs.Making.{name_cmp}
use Rattle.site_reader.proofs.RankOrder.{first, later}

pub name_total : IsTotalOrder name_cmp
name_total = then_total (on_total (λ (n : ItemName). n.path) nat_list_cmp_total) (on_total (λ (n : ItemName). n.part) nat_cmp_total)

pub name_same : IsAntisymmetric name_cmp
name_same a b e =
    let path = slice_cmp-IsAntisymmetric nat_cmp-IsAntisymmetric a.path b.path (first (path_cmp a.path b.path) _ e) in
    let part = nat_cmp-IsAntisymmetric a.part b.part (later (path_cmp a.path b.path) _ e) in
    λ i. record { path = path i; part = part i }

-- the order that the code derives is this one
pub name_derived : ◌≡◌ {A = ItemName → ItemName → Ordering} names.cmp-value.it name_cmp
name_derived = λ i a b. ordering_then (path_cmp a.path b.path) (nat_cmp a.part b.part)
