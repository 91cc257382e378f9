use Rattle.std.proofs.Common.{◌≡◌, Ok, Ordering, length, rules, subst}
use Rattle.std.specs.BTreeMap.{IsFromIterResult}
use Rattle.std.specs.Vec.Iter.{into_iter_len}
use Rattle.std.proofs.lemmas.Iterator.Adapters.{YieldsList-from_vec, fact_from_collect}
use Rattle.site_base.specs.contracts.item_name.ItemNameOrd.TheImpl as names
use Rattle.site_base.specs.declared.item_name.ItemName.{ItemName}
use Rattle.site_reader.proofs.Collected.{collected}
use Rattle.site_reader.proofs.NameOrder.{name_derived, name_same, name_total}
use Rattle.site_reader.proofs.making.sorted.Goals as goal

pub returns : goal.returns
returns c =
    let len : into_iter_len c.into_iter.result ≡ length c.args.items.items = search rules in
    let made = fact_from_collect {E = Unit {0}} (λ xs n. IsFromIterResult names.cmp-value.it xs n) (Ok c.in_ok-collect.field-0) c.in_ok-collect.ensures.ran (YieldsList-from_vec c.args.items.items c.into_iter.ensures.rest len) in
    collected name_total name_same c.args.items.items c.in_ok-collect.field-0
    (subst (λ (order : ItemName → ItemName → Ordering). IsFromIterResult order c.args.items.items c.in_ok-collect.field-0) name_derived made)
