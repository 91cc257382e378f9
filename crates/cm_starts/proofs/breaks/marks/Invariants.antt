use Rattle.std.proofs.Common.{◌≡◌, ◌≤◌, drop}
use Rattle.cm_starts.specs.Runs.{marks_in}
use Rattle.cm_starts.proofs.breaks.marks.Given as goal

abbrev pub invariant-loop-c : goal.invariant-loop-c
invariant-loop-c l = record {
  few : l.count ≤ l.c-index;
  so_far : marks_in l.count l.mark (drop l.c-index l.text) ≡ marks_in 0 l.mark l.text;
}
