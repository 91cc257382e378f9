use Rattle.std.proofs.Common.{List, ◌+◌, ◌∙◌, ap, refl, drop, arith}
use Rattle.site_base.specs.Plain.{Items, onto}
use Rattle.site_base.specs.Plain.{text}
use Rattle.site_base.specs.View.{pairs_of}
use Rattle.site_base.specs.declared.value.Pair.{Pair}
use Rattle.filter_base.proofs.ItemLaws.{made_more, made_end}
use Rattle.list_filters.specs.Sortings.{names}
use Rattle.list_filters.proofs.sortings.names.Goals as goal

abbrev shown : List Pair → Items
shown ps = names (pairs_of ps)

pub loop-pair-preserved : goal.loop-pair-preserved
loop-pair-preserved c =
    let xs = c.args.pairs.now in let i = c.loop-pair.pair-index in
    ap (λ (is : Items). onto is (shown (drop (i + 1) xs))) c.in_ok-push.ensures.ok
    ∙ made_more shown (λ (p : Pair). text p.key) (λ _ _. refl) c.loop-pair.list xs i c.pair-item.result _ c.loop-pair-test.true c.pair-item.is (ap text c.in_ok-share.ensures)
    ∙ c.loop-pair.invariant

pub returns : goal.returns
returns c = made_end shown c.loop-pair.list c.args.pairs.now c.loop-pair.pair-index refl (omega arith) ∙ c.loop-pair.invariant
