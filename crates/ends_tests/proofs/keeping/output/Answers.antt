use Rattle.out_tree.proofs.ClashLemmas.{none_differ}
use Rattle.ends_tests.proofs.keeping.output.Goals as goal

pub new-out-requires-clause-differ : goal.new-out-requires-clause-differ
new-out-requires-clause-differ c = none_differ c.new.result.items c.new.ensures.items
