-- What a feed rests on in a site: its variables, and its ten newest posts with what they came to.
use Rattle.std.specs.Prelude.{◌≡◌, ℕ, ◌∷◌, ℤ, nat_lt, true, false, List, [], codes, map, reverse, take, Option, Some}
use Rattle.site_base.specs.Places.{Files}
use Rattle.site_base.specs.Plain.{nil, text}
use Rattle.site_base.specs.Values.{value_text}
use Rattle.site_base.specs.View.{plain}
use Rattle.site_config.specs.Forms.{setting}
use Rattle.site_items.specs.Addresses.{is_page}
use Rattle.site_reader.specs.Lawful.{HasVariables, KnowsItself}
use Rattle.site_reader.specs.declared.site.Site.{Site}
use Rattle.site_reader.specs.declared.site_item.SiteItem.{SiteItem}
use Rattle.site_text.specs.Extensions.{is_listed}
use Rattle.site_variables.specs.Lists.{each, named, posts}
use Rattle.site_variables.specs.Variables.{site_variable}
use Rattle.site_world.specs.Sights.{placed, site_sight}
use Rattle.read_record.specs.Queries.{View}
use Rattle.read_record.specs.declared.outcome.Outcome.{Outcome}
use Rattle.read_record.specs.declared.outcome.Outcome.TheVariants.{Done}
use Rattle.feed_pages.specs.Feed.{Post}
use Rattle.feed_law.specs.FeedItems.{IsBare}
use Rattle.feed_law.specs.FeedViews.{Given, FeedView}

-- an item as a feed shows it, by what it came to
abbrev pub post_of : (SiteItem → List ℕ) → SiteItem → Post
post_of content i = record {
  name = i.name;
  url = i.url;
  title = setting (codes "title") (plain i.vars);
  date = value_text (setting (codes "date") (plain i.vars));
  content = content i;
}

-- the posts, from the newest
abbrev pub newest : Site → List SiteItem
newest site = reverse (posts site.items)

abbrev pub given_of : Site → (SiteItem → List ℕ) → Given
given_of site content = record {
  title = site_variable site (codes "title");
  url = site_variable site (codes "url");
  baseurl = site_variable site (codes "baseurl");
  zone = site_variable site (codes "timezone");
  all = each named (newest site);
  posts = map (post_of content) (take 10 (newest site));
}

-- what a reader sees of a site where these outcomes are known
abbrev pub sees : Files → Site → ℕ → (ℕ → Option Outcome) → View
sees files site reader known = site_sight files site reader known

-- a post of the site that was rendered before its reader, with an address that begins with a slash, and a date
pub record IsRendered (site : Site) (reader : ℕ) (known : ℕ → Option Outcome) (content : SiteItem → List ℕ) (i : SiteItem) : Type 0 where
  pub place : ℕ
  pub stands : placed i.name site.items ≡ Some (place, i)
  pub before : nat_lt place reader ≡ true
  pub output : List ℕ
  pub done : known place ≡ Some (Done (content i) output)
  pub knows : KnowsItself i
  pub rooted : (rest : List ℕ) × (i.url ≡ 47 ∷ rest)
  pub has : HasVariables site.config i
  pub document : is_page has.kind ≡ false
  pub whole : i.name.part ≡ 0
  pub date : ℤ
  pub moment : has.moment ≡ Some date

abbrev pub AllRendered : Site → ℕ → (ℕ → Option Outcome) → (SiteItem → List ℕ) → List SiteItem → Type 0
AllRendered site reader known content [] = Unit {0}
AllRendered site reader known content (i ∷ is) = IsRendered site reader known content i × AllRendered site reader known content is

-- where the ten newest posts were rendered before a reader, it finds what a feed rests on
abbrev pub SiteLaw : Type 0
SiteLaw = (files : Files) (site : Site) (reader : ℕ) (known : ℕ → Option Outcome) (content : SiteItem → List ℕ) →
    AllRendered site reader known content (take 10 (newest site)) → FeedView (sees files site reader known) (given_of site content)

-- an item of the site at its place that is no Markdown and names no layout is only evaluated
abbrev pub BareLaw : Type 0
BareLaw = (files : Files) (site : Site) (reader : ℕ) (known : ℕ → Option Outcome) (place : ℕ) (i : SiteItem) → placed i.name site.items ≡ Some (place, i) →
    setting (codes "ext") (plain i.vars) ≡ text (codes ".xml") → setting (codes "layout") (plain i.vars) ≡ nil → is_listed site.config.markdown_ext (codes ".xml") ≡ false →
    IsBare (sees files site reader known) i.body i.name
