use Rattle.feed_law.proofs.FeedSiteLaws.{site_law}
use Rattle.feed_law.proofs.laws.site_law.Goals as goal

pub returns : goal.returns
returns c = site_law
