use Rattle.feed_law.proofs.FeedLawProofs.{deep_law}
use Rattle.feed_law.proofs.laws.deep_law.Goals as goal

pub returns : goal.returns
returns c = deep_law
