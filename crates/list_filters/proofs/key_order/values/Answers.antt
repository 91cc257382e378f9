use Rattle.std.proofs.Common.{List, ◌+◌, ◌∙◌, ap, refl, drop, arith, map}
use Rattle.site_base.specs.Plain.{Items, onto}
use Rattle.site_base.specs.View.{plain}
use Rattle.filter_base.specs.Keyed.{values}
use Rattle.filter_base.specs.Taken.{entry_of}
use Rattle.filter_base.specs.declared.keyed.Entry.{Entry}
use Rattle.filter_base.proofs.ItemLaws.{made_more, made_end}
use Rattle.list_filters.proofs.key_order.values.Goals as goal

abbrev shown : List Entry → Items
shown es = values (map entry_of es)

pub loop-entry-preserved : goal.loop-entry-preserved
loop-entry-preserved c =
    let xs = c.args.entries.now in let i = c.loop-entry.entry-index in
    ap (λ (is : Items). onto is (shown (drop (i + 1) xs))) c.in_ok-push.ensures.ok
    ∙ made_more shown (λ (e : Entry). plain e.value.now) (λ _ _. refl) c.loop-entry.list xs i c.entry-item.result _ c.loop-entry-test.true c.entry-item.is (ap plain c.in_ok-copy.ensures)
    ∙ c.loop-entry.invariant

pub returns : goal.returns
returns c = made_end shown c.loop-entry.list c.args.entries.now c.loop-entry.entry-index refl (omega arith) ∙ c.loop-entry.invariant
