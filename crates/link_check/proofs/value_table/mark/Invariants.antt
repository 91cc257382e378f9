use Rattle.std.proofs.Common.{take}
use Rattle.link_check.specs.Numbers.{AreSafe, Marks}
use Rattle.link_check.proofs.value_table.mark.Given as goal

abbrev pub invariant-loop-number : goal.invariant-loop-number
invariant-loop-number l = record {
  same : Marks l.fn.slots.items l.slots.items;
  safe : AreSafe l.slots.items (take l.number-index l.numbers);
}
