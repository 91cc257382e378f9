use Rattle.std.proofs.Common.{List, ◌+◌, ◌∙◌, ap, refl, drop, arith}
use Rattle.site_base.specs.Plain.{Items, onto}
use Rattle.site_base.specs.View.{plain, items_of}
use Rattle.site_base.specs.declared.value.Value.{Value}
use Rattle.filter_base.proofs.ItemLaws.{made_more, made_end}
use Rattle.list_filters.specs.Sortings.{natural, natural_items}
use Rattle.list_filters.proofs.sortings.natural_keys.Goals as goal

abbrev shown : List Value → Items
shown vs = natural_items (items_of vs)

pub loop-key-preserved : goal.loop-key-preserved
loop-key-preserved c =
    let xs = c.args.keys.now in let i = c.loop-key.key-index in
    ap (λ (is : Items). onto is (shown (drop (i + 1) xs))) c.in_ok-push.ensures.ok
    ∙ made_more shown (λ (v : Value). natural (plain v)) (λ _ _. refl) c.loop-key.list xs i c.key-item.result _ c.loop-key-test.true c.key-item.is (c.in_ok-natural.ensures)
    ∙ c.loop-key.invariant

pub returns : goal.returns
returns c = made_end shown c.loop-key.list c.args.keys.now c.loop-key.key-index refl (omega arith) ∙ c.loop-key.invariant
