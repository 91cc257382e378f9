-- What an output shows of a site's feed and of its sitemap.
use Rattle.std.specs.Prelude.{◌≡◌, ℕ, ℤ, true, false, List, [], codes, slice_get, Option, Some, None, Ok}
use Rattle.std.specs.FinMap.{find, get}
use Rattle.feed_law.specs.FeedLaws.{feed_of}
use Rattle.feed_law.specs.FeedSites.{given_of}
use Rattle.feed_pages.specs.Located.{located}
use Rattle.feed_pages.specs.Sitemap.{addresses}
use Rattle.feed_pages.specs.declared.sitemap.MapPage.{MapPage}
use Rattle.permalinks.specs.Addresses.{front}
use Rattle.read_record.specs.Queries.{Gave}
use Rattle.read_record.specs.declared.outcome.Outcome.{Outcome}
use Rattle.read_record.specs.declared.outcome.Outcome.TheVariants.{Done, Fault}
use Rattle.site_base.specs.Places.{Files, is_listed, path_cmp}
use Rattle.site_base.specs.declared.settings.Settings.{Settings}
use Rattle.site_dates.specs.Moment.{IsMoment}
use Rattle.site_reader.specs.Generating.{listed}
use Rattle.site_reader.specs.Sites.{site}
use Rattle.feed_law.specs.Unmapped.{unmapped}
use Rattle.site_reader.specs.Winners.{winners}
use Rattle.site_reader.specs.declared.site.Site.{Site}
use Rattle.site_reader.specs.declared.site_item.SiteItem.{SiteItem}
use Rattle.site_reader.specs.declared.winner.Winner.{Winner}
use Rattle.site_reader.specs.declared.winner.Winner.TheVariants.{Page}
use Rattle.site_session.specs.Full.{rendered, tree_of}
use Rattle.site_world.specs.Sights.{placed}

-- ---- which output wins

abbrev pub winner_at : Site → List ℕ → Option Winner
winner_at s path = find path_cmp path (winners s.config s.items s.statics)

-- the output that wins a path is the page that is made there besides: part 1 of that path
pub record IsMadeAt (s : Site) (path : List ℕ) : Type 0 where
  pub place : ℕ
  pub page : SiteItem
  pub wins : winner_at s path ≡ Some (Page place)
  pub stands : slice_get s.items place ≡ Some page
  pub named : page.name ≡ record { path = path; part = 1 }

-- ---- the feed

abbrev pub own_text : Option Outcome → List ℕ
own_text (Some (Done content output)) = content
own_text (Some (Fault fault)) = []
own_text None = []

abbrev pub content_at : List Outcome → Option (ℕ × SiteItem) → List ℕ
content_at outs None = []
content_at outs (Some found) = own_text (slice_get outs found.0)

-- what an item of the site came to for its own text
abbrev pub content_of : Site → List Outcome → SiteItem → List ℕ
content_of s outs i = content_at outs (placed i.name s.items)

-- of the site's title and addresses, and of its ten newest posts with what they came to
abbrev pub feed_text : Site → List Outcome → List ℕ
feed_text s outs = feed_of (given_of s (content_of s outs))

-- ---- the sitemap

-- what stands in front of the addresses of a site
abbrev pub site_front : Site → List ℕ
site_front s = front s.config.url s.config.baseurl

-- the pages of these items and of the site's copied files that a sitemap lists
abbrev pub mapped_pages : Site → List SiteItem → List MapPage
mapped_pages s before = listed s.config before s.statics

-- ---- what a site writes

-- where the feed wins its path, the file there is the feed
abbrev pub FeedLaw : Type 0
FeedLaw = (files : Files) (moment : ℤ) (settings : Settings) (s : Site) (outs : List Outcome) → IsMoment moment → site files moment settings ≡ Ok s → rendered files s ≡ Gave outs →
    IsMadeAt s (codes "feed.xml") → get (tree_of files s outs) (codes "feed.xml") ≡ Some (feed_text s outs)

-- a file in which these addresses stand, each once, and no others
pub record Lists (file : Option (List ℕ)) (found : List (List ℕ)) : Type 0 where
  pub body : List ℕ
  pub there : file ≡ Some body
  pub lists : located body ≡ found

-- where the sitemap wins its path, the addresses of the listed pages stand in the file there
abbrev pub SitemapLaw : Type 0
SitemapLaw = (files : Files) (moment : ℤ) (settings : Settings) (s : Site) (outs : List Outcome) (before : List SiteItem) → IsMoment moment → site files moment settings ≡ Ok s → rendered files s ≡ Gave outs →
    unmapped files moment settings ≡ Ok before → IsMadeAt s (codes "sitemap.xml") → Lists (get (tree_of files s outs) (codes "sitemap.xml")) (addresses (site_front s) (mapped_pages s before))

-- ---- what an output shows

-- the feed's file, unless its step failed
abbrev pub ShowsFeed : Site → List Outcome → List (List ℕ) → Files → Type 0
ShowsFeed s outs failed there = IsMadeAt s (codes "feed.xml") → is_listed (codes "feed.xml") failed ≡ false → get there (codes "feed.xml") ≡ Some (feed_text s outs)

-- and the sitemap's
abbrev pub ShowsSitemap : Site → List SiteItem → List (List ℕ) → Files → Type 0
ShowsSitemap s before failed there =
    IsMadeAt s (codes "sitemap.xml") → is_listed (codes "sitemap.xml") failed ≡ false →
    Lists (get there (codes "sitemap.xml")) (addresses (site_front s) (mapped_pages s before))

-- but where the steps at these paths failed, an output that tells its files shows both
abbrev pub Shows : Files → ℤ → Settings → List (List ℕ) → Option Files → Type 0
Shows files moment settings failed tells =
    (s : Site) (outs : List Outcome) (before : List SiteItem) (there : Files) → IsMoment moment → site files moment settings ≡ Ok s → rendered files s ≡ Gave outs → unmapped files moment settings ≡ Ok before → tells ≡ Some there →
    ShowsFeed s outs failed there × ShowsSitemap s before failed there
