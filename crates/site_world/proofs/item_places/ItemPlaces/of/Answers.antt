use Rattle.std.proofs.Common.{sym}
use Rattle.memo_table.specs.Names.{same_name}
use Rattle.site_base.specs.declared.item_name.ItemName.{ItemName}
use Rattle.site_reader.specs.declared.site_item.SiteItem.{SiteItem}
use Rattle.site_world.proofs.Loops.{place_more}
use Rattle.site_world.specs.Indices.{place_in}
use Rattle.site_world.proofs.item_places.ItemPlaces.of.Goals as goal

pub loop-place-preserved : goal.loop-place-preserved
loop-place-preserved c = λ name.
    place_more (λ (name : ItemName) (item : SiteItem). same_name item.name name) c.args.items.now c.loop-place.place c.index-items-place.result c.loop-place-test.true (sym c.index-items-place.is)
    name (place_in c.loop-place.made name) (place_in c.add.new.self name) (c.in_ok-add.ensures name) (c.loop-place.invariant name)
