use Rattle.std.proofs.Common.{length}
use Rattle.text_tests.proofs.shelf.+under.Given as goal

abbrev pub decreases-under : goal.decreases-under
decreases-under l = length l.keys.now
