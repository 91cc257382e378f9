-- The feed and the sitemap among the items of a site, which in Jekyll 4 the plugins jekyll-feed and jekyll-sitemap make. Their addresses are those of the plugins; what they say is this project's own.
use Rattle.std.specs.Prelude.{ℕ, nat_eq, Bool, true, false, ◌&&◌, ◌||◌, List, [], ◌∷◌, ◌++◌, codes, filter_map, Option, Some, None, Ok, Err, if◌then◌else◌}
use Rattle.std.specs.List.{slice_get, ends_with}
use Rattle.site_base.specs.Chains.{◌>>=◌}
use Rattle.site_base.specs.Faults.{fault_at}
use Rattle.site_base.specs.Plain.{Plain, bool, no_pairs}
use Rattle.site_base.specs.View.{plain}
use Rattle.site_base.specs.declared.faults.FaultKind.TheVariants as fault
use Rattle.site_base.specs.declared.value.Value.TheVariants as value
use Rattle.site_config.specs.Forms.{setting}
use Rattle.site_config.specs.declared.config.Config.{Config}
use Rattle.site_items.specs.Items.{page_variables, placed}
use Rattle.site_items.specs.declared.static_file.StaticFile.{StaticFile}
use Rattle.site_text.specs.Extensions.{is_listed}
use Rattle.permalinks.specs.Addresses.{front}
use Rattle.feed_pages.specs.FeedTemplate.{feed_template}
use Rattle.feed_pages.specs.Sitemap.{sitemap}
use Rattle.feed_pages.specs.declared.sitemap.MapPage.{MapPage}
use Rattle.site_reader.specs.Found.{Found}
use Rattle.site_reader.specs.Making.{archive_pages, generated_group, with_made}
use Rattle.site_reader.specs.Placing.{config_path}
use Rattle.site_reader.specs.Winners.{winners}
use Rattle.site_reader.specs.declared.site_item.SiteItem.{SiteItem}
use Rattle.site_reader.specs.declared.winner.Winner.{Winner}
use Rattle.site_reader.specs.declared.winner.Winner.TheVariants.{Page, Copy, Document}

-- ---- a page of XML

-- it stands at the root, and says nothing of itself but where it is
abbrev pub xml_page : Config → List ℕ → List ℕ → SiteItem
xml_page config path body = record {
  name = record { path = path; part = 1 };
  group = generated_group config;
  body = body;
  vars = value.Hash (page_variables path (47 ∷ path) (placed path (47 ∷ path) no_pairs));
  url = 47 ∷ path;
  dest = Some path;
  paginator = value.Nil;
}

-- such a page is asked for, but would be converted as Markdown
abbrev pub marks_xml : Config → Bool
marks_xml config = (config.make_feed || config.make_sitemap) && is_listed config.markdown_ext (codes ".xml")

-- ---- the feed

abbrev pub feed_page : Config → SiteItem
feed_page config = xml_page config (codes "feed.xml") feed_template

-- where the configuration asks for it
abbrev pub feed_pages : Config → List SiteItem
feed_pages config = if config.make_feed then feed_page config ∷ [] else []

-- ---- the sitemap

abbrev pub is_false : Plain → Bool
is_false (bool false) = true
is_false v = false

-- the URL of an item, unless its variable `sitemap` is false
abbrev pub mapped_url : SiteItem → Option (List ℕ)
mapped_url i = if is_false (setting (codes "sitemap") (plain i.vars)) then None else Some i.url

-- and that of an output by its place
abbrev pub item_url : Option SiteItem → Option (List ℕ)
item_url None = None
item_url (Some i) = mapped_url i

abbrev pub copy_url : Option StaticFile → Option (List ℕ)
copy_url None = None
copy_url (Some copy) = Some copy.url

abbrev pub winner_url : List SiteItem → List StaticFile → Winner → Option (List ℕ)
winner_url items copies (Page place) = item_url (slice_get items place)
winner_url items copies (Document place) = item_url (slice_get items place)
winner_url items copies (Copy place) = copy_url (slice_get copies place)

abbrev pub map_page_at : List ℕ → Option (List ℕ) → Option MapPage
map_page_at path None = None
map_page_at path (Some url) = Some (record { dest = path; url = url })

-- the page of a path, where that ends with `.html`
abbrev pub if_mapped : List SiteItem → List StaticFile → List ℕ × Winner → Option MapPage
if_mapped items copies won = if ends_with nat_eq won.0 (codes ".html") then map_page_at won.0 (winner_url items copies won.1) else None

-- the pages that a sitemap lists: by their paths, each with the URL of the output that wins there
abbrev pub listed : Config → List SiteItem → List StaticFile → List MapPage
listed config items copies = filter_map (if_mapped items copies) (winners config items copies)

abbrev pub sitemap_page : Config → List MapPage → SiteItem
sitemap_page config pages = xml_page config (codes "sitemap.xml") (sitemap (front config.url config.baseurl) pages)

-- where the configuration asks for it
abbrev pub sitemap_pages : Config → List StaticFile → List SiteItem → List SiteItem
sitemap_pages config copies items = if config.make_sitemap then sitemap_page config (listed config items copies) ∷ [] else []

-- the items with a sitemap of them
abbrev pub mapped : Config → List StaticFile → List SiteItem → List SiteItem
mapped config copies items = with_made config items (sitemap_pages config copies items)

-- ---- all pages that are made besides

-- the items with their archives and their feed
abbrev pub with_archives_and_feed : Config → List SiteItem → Found (List SiteItem)
with_archives_and_feed config items = archive_pages config items >>= λ pages. Ok (with_made config items (pages ++ feed_pages config))

-- and with the map of these
abbrev pub generated : Config → List StaticFile → List SiteItem → Found (List SiteItem)
generated config copies items =
    if marks_xml config then Err (fault_at fault.Config config_path)
    else with_archives_and_feed config items >>= λ made. Ok (mapped config copies made)
