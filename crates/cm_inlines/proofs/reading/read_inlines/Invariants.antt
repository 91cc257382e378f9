use Rattle.std.proofs.Common.{[], drop, length, ◌-◌}
use Rattle.cm_spans.specs.Missing.{Lacks}
use Rattle.cm_inlines.specs.Places.{Lists}
use Rattle.cm_inlines.specs.States.{GoesOn, Sound}
use Rattle.cm_inlines.proofs.reading.read_inlines.Given as goal

abbrev pub invariant-loop-at : goal.invariant-loop-at
invariant-loop-at l = record {
  listed : Lists l.delimiters l.nodes.items;
  sound : Sound l.text l.at l.nodes.items;
  goes_on : GoesOn l.links l.text 0 [] l.at l.nodes.items;
  lacks : Lacks l.missing (drop l.at l.text);
}

abbrev pub decreases-loop-at : goal.decreases-loop-at
decreases-loop-at l = length l.text - l.at
