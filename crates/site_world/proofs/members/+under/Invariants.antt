use Rattle.std.proofs.Common.{length}
use Rattle.site_world.proofs.members.+under.Given as goal

abbrev pub decreases-under : goal.decreases-under
decreases-under l = length l.keys.now
