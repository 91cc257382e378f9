use Rattle.feed_law.proofs.FeedItemLaws.{item_law}
use Rattle.feed_law.proofs.laws.item_law.Goals as goal

pub returns : goal.returns
returns c = item_law
