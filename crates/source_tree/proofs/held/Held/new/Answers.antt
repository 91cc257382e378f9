use Rattle.source_tree.proofs.Holding.{keeps-empty}
use Rattle.source_tree.proofs.held.Held.new.Goals as goal

pub invariant_of-result : goal.invariant_of-result
invariant_of-result c = keeps-empty _ c.new.ensures
