use Rattle.memo_table.proofs.NotedLaws.{right-later}
use Rattle.memo_table.proofs.noted.NotedMemo.merge_shared.Goals as goal

pub invariant_of-self : goal.invariant_of-self
invariant_of-self g c = (
  c.keep.ensures.sound,
  right-later c.self.inside.store c.keep.new.store (g.W.World.sight c.self.inside.world.now) c.keep.ensures.grew c.self.inside.notes c.self.invariant.1,
)
