use Rattle.std.proofs.Common.{length, ◌≤◌}
use Rattle.cm_spans.proofs.Beside.{SoFar}
use Rattle.cm_spans.proofs.flanking.last_start.Given as goal

abbrev pub invariant-loop-end : goal.invariant-loop-end
invariant-loop-end l = record {
  within : l.end ≤ length l.bytes;
  so_far : SoFar l.bytes l.end;
}

abbrev pub decreases-loop-end : goal.decreases-loop-end
decreases-loop-end l = l.end
