use Rattle.std.proofs.Common.{◌≡◌, drop}
use Rattle.site_reader.specs.Winners.{with_items}
use Rattle.site_reader.proofs.winning.put_items.Given as goal

abbrev pub invariant-loop-item : goal.invariant-loop-item
invariant-loop-item l =
    (l.place ≡ l.item-index)
    × (with_items l.kind l.config l.won.entries l.place (drop l.item-index l.items) ≡ with_items l.kind l.config l.fn.won.entries 0 l.items)
