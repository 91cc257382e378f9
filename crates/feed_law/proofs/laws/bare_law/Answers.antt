use Rattle.feed_law.proofs.BareItems.{bare_law}
use Rattle.feed_law.proofs.laws.bare_law.Goals as goal

pub returns : goal.returns
returns c = bare_law
