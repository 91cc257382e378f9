use Rattle.std.proofs.Common.{List, ◌∙◌, ap, map, rules}
use Rattle.std.proofs.lemmas.Result.{IfOk-weaker}
use Rattle.site_base.specs.View.{plain}
use Rattle.filter_base.specs.Keyed.{values}
use Rattle.filter_base.specs.Taken.{entry_of}
use Rattle.filter_base.specs.declared.keyed.Entry.{Entry}
use Rattle.list_filters.specs.KeyOrder.{key_below}
use Rattle.list_filters.proofs.KeyOrderLaws.{sorted_by_key}
use Rattle.site_base.proofs.SortLaws.{seen_sorted}
use Rattle.list_filters.proofs.key_order.sorted.Goals as goal

pub returns : goal.returns
returns c =
    let xs = c.args.entries.items in let nils = c.args.nils in let sort = c.in_ok-sort_by.ensures in
    IfOk-weaker c.values.result _ _ (λ list e. e ∙ ap (λ (es : List Entry). values (map entry_of es)) (c.as_slice.ensures.value ∙ sorted_by_key nils (λ (x : Entry). plain x.key.now) xs _ sort.sorted sort.stable (λ a r q k. search rules))
    ∙ ap values (seen_sorted entry_of (key_below nils) xs)) c.values.ensures
