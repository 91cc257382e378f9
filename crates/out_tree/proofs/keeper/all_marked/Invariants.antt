use Rattle.std.proofs.Common.{◌≡◌, ◌++◌}
use Rattle.out_tree.proofs.Marking.{mark_each}
use Rattle.out_tree.proofs.keeper.all_marked.Given as goal

abbrev pub invariant-loop-path : goal.invariant-loop-path
invariant-loop-path l = record {
  whole : l.fn.paths.items ≡ l.yielded ++ l.path-iterator.rest.items;
  marked : l.entries.items ≡ mark_each l.yielded;
}
