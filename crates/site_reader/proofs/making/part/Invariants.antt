use Rattle.std.proofs.Common.{◌≡◌, ◌++◌, length}
use Rattle.std.specs.Prelude.{◌==◌, filter, not}
use Rattle.std.specs.Vec.Iter.{into_iter_items, into_iter_len}
use Rattle.site_reader.proofs.making.part.Given as goal

abbrev pub invariant-loop-item : goal.invariant-loop-item
invariant-loop-item l = (l.own.items ++ filter (λ i. not (i.group == l.group)) (into_iter_items l.item-iterator) ≡ l.fn.own.items ++ filter (λ i. not (i.group == l.group)) l.fn.items)
    × (l.generated.items ++ filter (λ i. i.group == l.group) (into_iter_items l.item-iterator) ≡ l.fn.generated.items ++ filter (λ i. i.group == l.group) l.fn.items)
    × (into_iter_len l.item-iterator ≡ length (into_iter_items l.item-iterator))
