use Rattle.std.proofs.Common.{drop, length, take, ◌++◌, ◌≡◌, ◌≤◌}
use Rattle.cm_blocks.specs.Flat.{closes}
use Rattle.cm_blocks.proofs.walk.push_ends.Given as goal

abbrev pub invariant-loop-i : goal.invariant-loop-i
invariant-loop-i l = record {
  within : l.i ≤ length l.stack;
  so_far : l.tokens.items ++ closes (drop l.kept (take l.i l.stack)) ≡ l.initial.tokens.items ++ closes (drop l.kept l.stack);
}

abbrev pub decreases-loop-i : goal.decreases-loop-i
decreases-loop-i l = l.i
