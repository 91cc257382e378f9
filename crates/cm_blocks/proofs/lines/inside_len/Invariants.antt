use Rattle.std.proofs.Common.{◌≡◌, ◌+◌, ◌-◌, ◌≤◌, drop, length}
use Rattle.site_text.specs.Fronts.{run_len}
use Rattle.cm_blocks.specs.LineCuts.{is_inside}
use Rattle.cm_blocks.proofs.lines.inside_len.Given as goal

abbrev pub invariant-loop-i : goal.invariant-loop-i
invariant-loop-i l = record {
  within : l.i ≤ length l.bytes;
  so_far : l.i + run_len is_inside (drop l.i l.bytes) ≡ run_len is_inside l.bytes;
}

abbrev pub decreases-loop-i : goal.decreases-loop-i
decreases-loop-i l = length l.bytes - l.i
