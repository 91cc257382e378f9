use Rattle.std.proofs.Common.{◌≡◌, ◌++◌, length}
use Rattle.std.specs.Vec.Iter.{into_iter_items, into_iter_len}
use Rattle.site_reader.proofs.making.push_all.Given as goal

abbrev pub invariant-loop-item : goal.invariant-loop-item
invariant-loop-item l = (l.items.items ++ into_iter_items l.item-iterator ≡ l.fn.items.items ++ l.fn.more.items)
    × (into_iter_len l.item-iterator ≡ length (into_iter_items l.item-iterator))
