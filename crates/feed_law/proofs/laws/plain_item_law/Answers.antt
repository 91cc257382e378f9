use Rattle.feed_law.proofs.PlainTextLaws.{plain_item_law}
use Rattle.feed_law.proofs.laws.plain_item_law.Goals as goal

pub returns : goal.returns
returns c = plain_item_law
