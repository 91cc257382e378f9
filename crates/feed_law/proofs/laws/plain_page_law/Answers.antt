use Rattle.feed_law.proofs.PlainTextLaws.{plain_page_law}
use Rattle.feed_law.proofs.laws.plain_page_law.Goals as goal

pub returns : goal.returns
returns c = plain_page_law
