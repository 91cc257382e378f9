use Rattle.std.proofs.Common.{false, length, ◌-◌, ◌≡◌, ◌≤◌, drop}
use Rattle.markdown_grammar.specs.Readers.{plus}
use Rattle.markdown_grammar.specs.Titles.{title_len}
use Rattle.cm_links.proofs.titles.title_len.Given as goal

abbrev pub invariant-loop-i : goal.invariant-loop-i
invariant-loop-i l = record {
  within : l.i ≤ length l.bytes;
  so_far : plus l.i (title_len l.mark l.is_escaped (drop l.i l.bytes)) ≡ title_len l.mark false l.bytes;
}

abbrev pub decreases-loop-i : goal.decreases-loop-i
decreases-loop-i l = length l.bytes - l.i
