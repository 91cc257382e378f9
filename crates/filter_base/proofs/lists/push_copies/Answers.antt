use Rattle.std.proofs.Common.{◌∙◌, arith, refl}
use Rattle.site_base.specs.View.{items_of}
use Rattle.filter_base.proofs.ItemLaws.{pushed, made_end}
use Rattle.filter_base.proofs.lists.push_copies.Goals as goal

pub loop-value-preserved : goal.loop-value-preserved
loop-value-preserved c =
    let p = pushed c.loop-value.list c.args.values.now c.loop-value.value-index c.value-item.result c.loop-value-test.true c.value-item.is in
    cc (p, c.in_ok-push.ensures.ok, c.in_ok-copy.ensures)

pub returns : goal.returns
returns c = made_end items_of c.loop-value.list c.args.values.now c.loop-value.value-index refl (omega arith) ∙ c.loop-value.invariant
