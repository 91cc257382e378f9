use Rattle.std.proofs.Common.{length, ◌-◌}
use Rattle.cm_blocks.proofs.opening.known_from.Given as goal

abbrev pub decreases-loop-until : goal.decreases-loop-until
decreases-loop-until l = length l.line - l.until
