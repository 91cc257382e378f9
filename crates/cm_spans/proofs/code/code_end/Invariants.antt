use Rattle.std.proofs.Common.{length, ◌-◌, ◌≡◌, ◌≤◌, drop}
use Rattle.markdown_grammar.specs.CodeSpans.{before_run}
use Rattle.markdown_grammar.specs.Readers.{plus}
use Rattle.cm_spans.proofs.code.code_end.Given as goal

abbrev pub invariant-loop-i : goal.invariant-loop-i
invariant-loop-i l = record {
  within : l.i ≤ length l.bytes;
  small : l.current ≤ l.i;
  so_far : plus l.i (before_run l.n l.current (drop l.i l.bytes)) ≡ before_run l.n 0 l.bytes;
}

abbrev pub decreases-loop-i : goal.decreases-loop-i
decreases-loop-i l = length l.bytes - l.i
