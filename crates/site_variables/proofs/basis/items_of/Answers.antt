use Rattle.std.proofs.Common.{ap, ◌∙◌, map}
use Rattle.site_variables.proofs.RestingLaws.{seen_more}
use Rattle.site_variables.specs.Resting.{item_facts, noted_facts}
use Rattle.site_variables.proofs.basis.items_of.Goals as goal

pub loop-item-preserved : goal.loop-item-preserved
loop-item-preserved c =
    ap (map noted_facts) c.in_ok-push.ensures.items
    ∙ seen_more noted_facts item_facts c.loop-item.made.items c.in_ok-of.field-0 c.args.items.now c.loop-item.item-index c.item-item.result c.loop-item-test.true c.item-item.is c.loop-item.invariant c.in_ok-of.ensures
