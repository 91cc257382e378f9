use Rattle.source_tree.proofs.Holding.{keeps-remove}
use Rattle.source_tree.proofs.held.Held.delete.Goals as goal

pub invariant_of-self : goal.invariant_of-self
invariant_of-self c = keeps-remove _ _ _ _ c.args.path.now c.self.view_is c.self.invariant.1 c.total_besides-self-inside.ensures.is c.remove.ensures.map
