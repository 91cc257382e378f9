use Rattle.std.proofs.Common.{length, ◌-◌, ◌≡◌, ◌+◌, ◌≤◌, drop}
use Rattle.site_text.specs.Fronts.{run_len}
use Rattle.cm_print.specs.Escapes.{is_plain}
use Rattle.cm_print.proofs.escaping.plain_len.Given as goal

abbrev pub invariant-loop-i : goal.invariant-loop-i
invariant-loop-i l = record {
  within : l.i ≤ length l.bytes;
  so_far : l.i + run_len (is_plain l.escape) (drop l.i l.bytes) ≡ run_len (is_plain l.escape) l.bytes;
}

abbrev pub decreases-loop-i : goal.decreases-loop-i
decreases-loop-i l = length l.bytes - l.i
