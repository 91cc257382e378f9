use Rattle.std.proofs.Common.{◌≡◌, length}
use Rattle.link_check.specs.Numbers.{texts_of}
use Rattle.link_check.proofs.value_table.unmark.Given as goal

abbrev pub invariant-loop-place : goal.invariant-loop-place
invariant-loop-place l = record {
  texts : texts_of l.slots.items ≡ texts_of l.fn.slots.items;
  same : length l.slots.items ≡ length l.fn.slots.items;
}
