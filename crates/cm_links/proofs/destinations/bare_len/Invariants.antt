use Rattle.std.proofs.Common.{false, length, ◌-◌, ◌≡◌, ◌≤◌, drop}
use Rattle.markdown_grammar.specs.Readers.{plus}
use Rattle.markdown_grammar.specs.Destinations.{bare_len}
use Rattle.cm_links.proofs.destinations.bare_len.Given as goal

abbrev pub invariant-loop-i : goal.invariant-loop-i
invariant-loop-i l = record {
  within : l.i ≤ length l.bytes;
  deep : l.depth ≤ 32;
  so_far : plus l.i (bare_len l.is_escaped l.depth (drop l.i l.bytes)) ≡ bare_len false 0 l.bytes;
}

abbrev pub decreases-loop-i : goal.decreases-loop-i
decreases-loop-i l = length l.bytes - l.i
