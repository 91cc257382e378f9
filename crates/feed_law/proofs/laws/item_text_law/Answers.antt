use Rattle.feed_law.proofs.FeedItemLaws.{item_text_law}
use Rattle.feed_law.proofs.laws.item_text_law.Goals as goal

pub returns : goal.returns
returns c = item_text_law
