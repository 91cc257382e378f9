use Rattle.std.proofs.Common.{◌≡◌, length}
use Rattle.std.specs.Prelude.{fold}
use Rattle.std.specs.Vec.Iter.{into_iter_items, into_iter_len}
use Rattle.site_session.specs.Full.{tree_of, with_output}
use Rattle.site_session.proofs.tree.tree_of.Given as goal

abbrev pub invariant-loop-path : goal.invariant-loop-path
invariant-loop-path l = (fold (with_output l.held l.site l.outs) l.tree (into_iter_items l.path-iterator) ≡ tree_of l.held l.site l.outs)
    × (into_iter_len l.path-iterator ≡ length (into_iter_items l.path-iterator))
