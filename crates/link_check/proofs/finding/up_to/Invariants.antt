use Rattle.std.proofs.Common.{length, ◌-◌, ◌≡◌, ◌≤◌, drop}
use Rattle.link_check.specs.Links.{up_to}
use Rattle.link_check.specs.Tags.{plus}
use Rattle.link_check.proofs.finding.up_to.Given as goal

abbrev pub invariant-loop-i : goal.invariant-loop-i
invariant-loop-i l = record {
  within : l.i ≤ length l.text;
  so_far : plus l.i (up_to l.mark (drop l.i l.text)) ≡ up_to l.mark l.text;
}

abbrev pub decreases-loop-i : goal.decreases-loop-i
decreases-loop-i l = length l.text - l.i
