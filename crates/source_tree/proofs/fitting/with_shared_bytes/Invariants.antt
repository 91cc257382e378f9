use Rattle.std.proofs.Common.{◌≡◌, ◌++◌}
use Rattle.source_tree.specs.Put.{plain}
use Rattle.source_tree.proofs.fitting.with_shared_bytes.Given as goal

abbrev pub invariant-loop-path : goal.invariant-loop-path
invariant-loop-path l = plain l.fn.files.items ≡ l.made.items ++ plain l.path-iterator.rest.items
