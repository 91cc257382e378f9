use Rattle.std.proofs.Common.{◌∙◌}
use Rattle.source_tree.proofs.Told.{lists_keys, some_same}
use Rattle.source_tree.proofs.memory.MemorySourceSourceTree.list.Goals as goal

pub returns-clause-lists : goal.returns-clause-lists
returns-clause-lists c = record {
  differ = c.in_ok-paths.ensures.differ;
  exact = λ files is q. lists_keys c.fails.new.self.files files c.in_ok-paths.field-0.items q c.in_ok-paths.ensures.paths (c.fails.ensures.files ∙ some_same c.args.self.now.files files is);
}
