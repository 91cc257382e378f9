use Rattle.feed_law.proofs.SitemapItemLaws.{sitemap_item_law}
use Rattle.feed_law.proofs.laws.sitemap_item_law.Goals as goal

pub returns : goal.returns
returns c = sitemap_item_law
