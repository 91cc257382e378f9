use Rattle.feed_law.proofs.FeedLawProofs.{excess_law}
use Rattle.feed_law.proofs.laws.excess_law.Goals as goal

pub returns : goal.returns
returns c = excess_law
