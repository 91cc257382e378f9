use Rattle.feed_law.proofs.PlainTextLaws.{plain_text_law}
use Rattle.feed_law.proofs.laws.plain_text_law.Goals as goal

pub returns : goal.returns
returns c = plain_text_law
