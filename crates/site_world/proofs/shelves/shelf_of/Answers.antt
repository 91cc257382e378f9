use Rattle.std.proofs.Common.{sym}
use Rattle.site_world.proofs.Loops.{pair_more}
use Rattle.site_world.specs.Shelves.{shelved}
use Rattle.site_world.proofs.shelves.shelf_of.Goals as goal

pub loop-pair-preserved : goal.loop-pair-preserved
loop-pair-preserved c = λ k.
    pair_more c.args.pairs.now c.loop-pair.pair-index c.pair-item.result c.loop-pair-test.true (sym c.pair-item.is) k (shelved c.loop-pair.made k) (shelved c.add_pair.new.made k) (c.in_ok-add_pair.ensures k) (c.loop-pair.invariant k)
