use Rattle.std.proofs.Common.{◌≡◌, ◌==◌, ◌+◌, ◌-◌, ◌≤◌, drop, length}
use Rattle.site_text.specs.Fronts.{run_len}
use Rattle.cm_starts.proofs.fences.marks.Given as goal

abbrev pub invariant-loop-i : goal.invariant-loop-i
invariant-loop-i l = record {
  within : l.i ≤ length l.text;
  so_far : l.i + run_len (λ d. d == l.mark) (drop l.i l.text) ≡ run_len (λ d. d == l.mark) l.text;
}

abbrev pub decreases-loop-i : goal.decreases-loop-i
decreases-loop-i l = length l.text - l.i
