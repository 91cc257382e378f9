-- The sitemap as an item of a site.
use Rattle.std.specs.Prelude.{◌≡◌, ℕ, List}
use Rattle.site_base.specs.declared.item_name.ItemName.{ItemName}
use Rattle.page_render.specs.Items.{item}
use Rattle.read_record.specs.Outcomes.{Page}
use Rattle.read_record.specs.Queries.{View, Gave, interpret}
use Rattle.feed_pages.specs.Located.{located}
use Rattle.feed_pages.specs.Sitemap.{addresses, sitemap}
use Rattle.feed_pages.specs.declared.sitemap.MapPage.{MapPage}
use Rattle.feed_law.specs.FeedItems.{IsBare, page}

-- whenever the sitemap comes to a page, that is its text, in which the addresses of its pages stand, each once, and no others
abbrev pub SitemapItemLaw : Type 0
SitemapItemLaw = (view : View) (base : List ℕ) (pages : List MapPage) (n : ItemName) → IsBare view (sitemap base pages) n →
    (made : Page) → interpret view (item n) ≡ Gave made → (made ≡ page (sitemap base pages)) × (located (sitemap base pages) ≡ addresses base pages)
