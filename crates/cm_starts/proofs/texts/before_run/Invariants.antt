use Rattle.std.proofs.Common.{length, ◌≡◌, ◌≤◌, ◌==◌, reverse, take}
use Rattle.std.specs.Str.{IsCharBoundary}
use Rattle.cm_starts.specs.Runs.{behind_run}
use Rattle.cm_starts.proofs.texts.before_run.Given as goal

abbrev pub invariant-loop-end : goal.invariant-loop-end
invariant-loop-end l = record {
  within : l.end ≤ length l.bytes;
  cut : IsCharBoundary l.bytes l.end;
  so_far : behind_run (λ d. d == l.c) (reverse (take l.end l.bytes)) ≡ behind_run (λ d. d == l.c) (reverse l.bytes);
}

abbrev pub decreases-loop-end : goal.decreases-loop-end
decreases-loop-end l = l.end
