use Rattle.std.proofs.Common.{false, length, ◌-◌, ◌≡◌, ◌≤◌, drop}
use Rattle.markdown_grammar.specs.Readers.{plus}
use Rattle.markdown_grammar.specs.Destinations.{pointed_len}
use Rattle.cm_links.proofs.destinations.pointed_len.Given as goal

abbrev pub invariant-loop-i : goal.invariant-loop-i
invariant-loop-i l = record {
  within : l.i ≤ length l.bytes;
  so_far : plus l.i (pointed_len l.is_escaped (drop l.i l.bytes)) ≡ pointed_len false l.bytes;
}

abbrev pub decreases-loop-i : goal.decreases-loop-i
decreases-loop-i l = length l.bytes - l.i
