use Rattle.std.proofs.Common.{take}
use Rattle.link_check.specs.Numbers.{AreNumbers, Keeps}
use Rattle.link_check.proofs.value_table.ValueTable.numbers_of.Given as goal

abbrev pub invariant-loop-text : goal.invariant-loop-text
invariant-loop-text l = record {
  numbers : AreNumbers l.self l.numbers.items (take l.text-index l.texts);
  kept : Keeps l.fn.self l.self;
}
