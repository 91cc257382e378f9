use Rattle.std.proofs.Common.{◌≡◌, ◌≤◌, drop, true}
use Rattle.cm_spans.specs.Words.{is_line_end}
use Rattle.cm_spans.proofs.words.without_spaces.Given as goal

abbrev pub invariant-loop-end : goal.invariant-loop-end
invariant-loop-end l = record {
  within : l.end ≤ l.line;
  line_ends : is_line_end (drop l.end l.text) ≡ true;
}

abbrev pub decreases-loop-end : goal.decreases-loop-end
decreases-loop-end l = l.end
