use Rattle.std.proofs.Common.{◌≡◌, length}
use Rattle.link_check.specs.Numbers.{IsIndex, KeepsUsed, texts_of}
use Rattle.link_check.proofs.value_table.sweep.Given as goal

abbrev pub invariant-loop-place : goal.invariant-loop-place
invariant-loop-place l = record {
  sound : IsIndex (texts_of l.slots.items) l.numbers;
  kept : KeepsUsed l.fn.slots.items l.slots.items;
  same : length l.slots.items ≡ length l.fn.slots.items;
}
