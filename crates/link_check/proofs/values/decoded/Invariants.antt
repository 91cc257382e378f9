use Rattle.std.proofs.Common.{◌≡◌, ◌≤◌, ◌-◌, drop, length}
use Rattle.link_check.specs.Targets.{decoded}
use Rattle.link_check.proofs.ValueLaws.{ahead}
use Rattle.link_check.proofs.values.decoded.Given as goal

abbrev pub invariant-loop-at : goal.invariant-loop-at
invariant-loop-at l = record {
  within : l.at ≤ length l.text;
  so_far : ahead l.made.items (decoded (drop l.at l.text)) ≡ decoded l.text;
}

abbrev pub decreases-loop-at : goal.decreases-loop-at
decreases-loop-at l = length l.text - l.at
