use Rattle.std.proofs.Common.{length, ◌-◌, ◌≡◌, ◌+◌, ◌≤◌, ◌==◌, drop}
use Rattle.std.specs.Str.{IsCharBoundary}
use Rattle.site_text.specs.Fronts.{run_len}
use Rattle.cm_starts.proofs.texts.run.Given as goal

abbrev pub invariant-loop-i : goal.invariant-loop-i
invariant-loop-i l = record {
  within : l.i ≤ length l.bytes;
  cut : IsCharBoundary l.bytes l.i;
  so_far : l.i + run_len (λ d. d == l.c) (drop l.i l.bytes) ≡ run_len (λ d. d == l.c) l.bytes;
}

abbrev pub decreases-loop-i : goal.decreases-loop-i
decreases-loop-i l = length l.bytes - l.i
