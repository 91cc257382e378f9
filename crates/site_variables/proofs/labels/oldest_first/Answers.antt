use Rattle.std.proofs.Common.{◌∙◌, sym}
use Rattle.site_variables.proofs.LabelLaws.{next_item}
use Rattle.site_variables.proofs.labels.oldest_first.Goals as goal

pub loop-item-preserved : goal.loop-item-preserved
loop-item-preserved c =
    sym (next_item c.args.key.now c.loop-item.groups c.add_item.new.groups c.args.items.now c.loop-item.item-index c.item-item.result c.loop-item-test.true c.item-item.is c.in_ok-add_item.ensures)
    ∙ c.loop-item.invariant
