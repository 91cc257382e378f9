use Rattle.std.proofs.Common.{length}
use Rattle.std.specs.Global.{Vec}
use Rattle.site_base.specs.Plain.{Items}
use Rattle.site_variables.proofs.PlaceLaws.{filled_end, filled_more, placed_in}
use Rattle.site_variables.proofs.by_place.documents_by_place.Goals as goal

pub loop-item-preserved : goal.loop-item-preserved
loop-item-preserved c =
    filled_more c.as_slice-item-items.result.now c.loop-item.item-index (length c.args.site.now.config.collections) c.item-item.result c.loop-item.lists.items c.add.new.lists.items
    c.loop-item-test.true c.item-item.is c.in_ok-add.ensures c.loop-item.invariant

pub returns : goal.returns
returns c =
    placed_in (λ (v : Vec Items). v.items) c.args.site.now.items c.as_slice-item-items.result.now (length c.args.site.now.config.collections) c.loop-item.lists.items c.shared.result c.as_slice-item-items.ensures
    (filled_end c.as_slice-item-items.result.now c.loop-item.item-index (length c.args.site.now.config.collections) c.loop-item.lists.items c.loop-item-test.false c.loop-item.invariant)
    c.shared.ensures
