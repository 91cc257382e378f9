use Rattle.feed_law.proofs.FeedPostLaws.{title_law}
use Rattle.feed_law.proofs.laws.title_law.Goals as goal

pub returns : goal.returns
returns c = title_law
