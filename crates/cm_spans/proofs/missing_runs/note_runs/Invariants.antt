use Rattle.std.proofs.Common.{drop, length, ◌+◌, ◌≡◌, ◌≤◌}
use Rattle.cm_spans.specs.Missing.{LacksRuns}
use Rattle.cm_spans.proofs.RunLaws.{marks}
use Rattle.cm_spans.proofs.missing_runs.note_runs.Given as goal

abbrev pub invariant-loop-at : goal.invariant-loop-at
invariant-loop-at l = record {
  within : l.at ≤ length l.text;
  small : l.run + l.at ≤ length l.text;
  whole : l.run ≡ marks (drop l.at l.text);
  lacks : LacksRuns l.known (drop l.at l.text);
}

abbrev pub decreases-loop-at : goal.decreases-loop-at
decreases-loop-at l = l.at
