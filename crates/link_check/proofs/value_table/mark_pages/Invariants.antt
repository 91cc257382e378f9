use Rattle.std.proofs.Common.{take}
use Rattle.std.specs.List.{AllByRecursion}
use Rattle.link_check.specs.Numbers.{AreSafe, Marks}
use Rattle.link_check.proofs.value_table.mark_pages.Given as goal

abbrev pub invariant-loop-entry : goal.invariant-loop-entry
invariant-loop-entry l = record {
  same : Marks l.fn.slots.items l.slots.items;
  safe : AllByRecursion (λ e. AreSafe l.slots.items e.1.links.items) (take l.entry-index l.pages);
}
