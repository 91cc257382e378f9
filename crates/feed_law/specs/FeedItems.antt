-- The feed as an item of a site: its text is its content and its output.
use Rattle.std.specs.Prelude.{◌≡◌, ℕ, true, false, List, [], codes, Result, Ok, Err}
use Rattle.site_base.specs.Plain.{Plain, nil, text}
use Rattle.site_base.specs.declared.faults.SiteFault.{SiteFault}
use Rattle.site_base.specs.declared.item_name.ItemName.{ItemName}
use Rattle.site_text.specs.Extensions.{is_listed}
use Rattle.liquid_eval.specs.Excerpts.{text_or_empty}
use Rattle.page_render.specs.Items.{item}
use Rattle.read_record.specs.Outcomes.{Page}
use Rattle.read_record.specs.Queries.{View, Known, Met, Gave, Failed, interpret}
use Rattle.read_record.specs.declared.key.Key.TheVariants.{Source, SiteVar, Var}
use Rattle.feed_pages.specs.FeedTemplate.{feed_template}
use Rattle.feed_law.specs.FeedLaws.{feed_of}
use Rattle.feed_law.specs.FeedPieces.{feed_pieces, written}
use Rattle.feed_law.specs.FeedViews.{Given, FeedView, is_flat, offset_of, base}

-- what a view finds of an item that is only evaluated: its template, an extension that is none of Markdown's, and no layout
pub record IsBare (view : View) (template : List ℕ) (n : ItemName) : Type 0 where
  pub extension : Plain
  pub names : Plain
  pub source : view (Source n) ≡ Known (text template)
  pub ext : view (Var n (codes "ext")) ≡ Known extension
  pub markdown : view (SiteVar (codes "markdown_ext")) ≡ Known names
  pub other : is_listed (text_or_empty names) (text_or_empty extension) ≡ false
  pub bare : view (Var n (codes "layout")) ≡ Known nil

-- and of the feed itself
abbrev pub IsFeed : View → ItemName → Type 0
IsFeed view n = IsBare view feed_template n

-- a text as an item's content and its output
abbrev pub page : List ℕ → Page
page t = record { content = t; output = t }

abbrev pub page_met : Result (List ℕ) SiteFault → Met SiteFault Page
page_met (Ok t) = Gave (page t)
page_met (Err f) = Failed f

-- the feed comes to its pieces one behind another, or to the fault of the first with which the text is too long
abbrev pub ItemLaw : Type 0
ItemLaw = (view : View) (g : Given) → FeedView view g → is_flat g ≡ true → (n : ItemName) → IsFeed view n → interpret view (item n) ≡ page_met (written n.path [] (feed_pieces (offset_of g) (base g) g.title g.posts))

-- whenever it comes to a page, that is the feed
abbrev pub ItemTextLaw : Type 0
ItemTextLaw = (view : View) (g : Given) → FeedView view g → (n : ItemName) → IsFeed view n → (made : Page) → interpret view (item n) ≡ Gave made → made ≡ page (feed_of g)
