use Rattle.std.proofs.Common.{◌≡◌, ◌≤◌, take}
use Rattle.std.specs.List.Sorted.{IsPermutation}
use Rattle.memo_table.specs.Entries.{of_names}
use Rattle.memo_table.specs.NameKeys.{as_map}
use Rattle.memo_table.proofs.by_name.gather.Given as goal

abbrev pub invariant-loop-item : goal.invariant-loop-item
invariant-loop-item g l = record {
  same : as_map l.values.entries ≡ as_map l.fn.values.entries;
  front : as_map (take l.gathered l.values.entries) ≡ of_names (take l.item (g.W.World.names l.world)) (as_map l.fn.values.entries);
  below : l.gathered ≤ l.item;
  moved : IsPermutation l.fn.values.entries l.values.entries;
}
