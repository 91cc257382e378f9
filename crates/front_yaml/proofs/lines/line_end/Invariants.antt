use Rattle.std.proofs.Common.{length, ◌-◌, ◌≡◌, ◌≤◌, ◌+◌, drop}
use Rattle.site_base.proofs.LinesLaws.{line_len}
use Rattle.front_yaml.proofs.lines.line_end.Given as goal

abbrev pub invariant-loop-i : goal.invariant-loop-i
invariant-loop-i l = record {
  after : l.at ≤ l.i;
  within : l.i ≤ length l.bytes;
  len : l.i + line_len (drop l.i l.bytes) ≡ l.at + line_len (drop l.at l.bytes);
}

abbrev pub decreases-loop-i : goal.decreases-loop-i
decreases-loop-i l = length l.bytes - l.i
