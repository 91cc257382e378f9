use Rattle.std.proofs.Common.{◌≡◌, [], drop, length}
use Rattle.site_base.specs.Path.{segments}
use Rattle.link_check.specs.Segments.{reversed}
use Rattle.link_check.specs.Targets as targets
use Rattle.link_check.proofs.resolving.resolved.Given as goal

abbrev pub invariant-loop-segment : goal.invariant-loop-segment
invariant-loop-segment l = targets.resolved (reversed l.left.items) (drop (length l.yielded) (segments l.path)) ≡ targets.resolved [] (segments l.path)
