-- The files of the feed and of the sitemap that a site writes, and that its output shows.
use Rattle.std.proofs.Common.{◌≡◌, ◌∙◌, sym, ap, subst, ℕ, ℤ, true, false, ◌⊎◌, inl, inr, is_some, List, codes, take, Option, Some, Ok}
use Rattle.std.specs.Prelude.{option_and_then, slice_get}
use Rattle.std.specs.FinMap.{contains_key, empty, get}
use Rattle.std.specs.Option.{option_map}
use Rattle.std.proofs.lemmas.Option.{slice_get-map}
use Rattle.feed_law.specs.FeedItems.{IsBare, page}
use Rattle.feed_law.specs.FeedSites.{given_of as feed_given, sees}
use Rattle.feed_law.proofs.BareItems.{bare_law}
use Rattle.feed_law.proofs.FeedItemLaws.{item_text_law}
use Rattle.feed_law.proofs.FeedSiteLaws.{site_law}
use Rattle.feed_law.proofs.SitemapItemLaws.{sitemap_item_law}
use Rattle.feed_pages.specs.FeedTemplate.{feed_template}
use Rattle.feed_pages.specs.Sitemap.{addresses, sitemap}
use Rattle.feed_pages.specs.declared.sitemap.MapPage.{MapPage}
use Rattle.read_record.specs.Outcomes.{Page as Made}
use Rattle.read_record.specs.Queries.{Gave, View}
use Rattle.read_record.specs.declared.outcome.Outcome.{Outcome}
use Rattle.read_record.specs.declared.outcome.Outcome.TheVariants.{Done}
use Rattle.render_workers.specs.Folds.{Folded}
use Rattle.site_base.specs.Chains.{◌>>=◌}
use Rattle.site_base.specs.Places.{Files, is_listed}
use Rattle.site_base.specs.Plain.{nil, text}
use Rattle.site_base.specs.View.{plain}
use Rattle.site_base.specs.declared.settings.Settings.{Settings}
use Rattle.site_config.specs.Forms.{setting}
use Rattle.site_dates.specs.Moment.{IsMoment}
use Rattle.site_reader.specs.Found.{Found}
use Rattle.site_reader.specs.Generating.{feed_page, sitemap_page}
use Rattle.site_reader.specs.Lawful.{IsLawful}
use Rattle.site_reader.specs.Sites.{site}
use Rattle.feed_law.specs.Unmapped.{unmapped}
use Rattle.site_reader.specs.declared.site.Site.{Site}
use Rattle.site_reader.specs.declared.site_item.SiteItem.{SiteItem}
use Rattle.feed_law.proofs.GeneratedLaws.{IsOnly, at_place, feed_only, sitemap_only, xml_unlisted}
use Rattle.feed_law.proofs.SiteLaws.{ComesOf, comes_of}
use Rattle.site_session.specs.Feeds.{FeedLaw, IsMadeAt, Lists, Shows, ShowsFeed, ShowsSitemap, SitemapLaw, content_of, feed_text, mapped_pages, site_front}
use Rattle.site_session.specs.Full.{full, given_of, outcome_bytes, rendered, tree_of, whole_by, winner_bytes, written_by, written_in}
use Rattle.site_session.specs.Standing.{MakesBut}
use Rattle.site_session.specs.declared.output.Written.{Written}
use Rattle.site_session.proofs.RenderedPosts.{CameTo, fold_gives, site_lawful, stands, ten_rendered}
use Rattle.site_session.proofs.TreeLaws.{tree_at}
use Rattle.site_world.specs.Sights.{fixed_bytes, item_names, placed}

-- ---- a page that wins its path

module _ (files : Files) (moment : ℤ) (settings : Settings) (s : Site) (outs : List Outcome) (is : IsMoment moment) (read : site files moment settings ≡ Ok s) (fold : rendered files s ≡ Gave outs) where
  lawful : IsLawful files s
  lawful = site_lawful files moment settings s is read

  comes : ComesOf files moment settings s
  comes = comes_of files moment settings s is read

  module _ (path : List ℕ) (made : IsMadeAt s path) where
    -- what it sees
    abbrev view : View
    view = sees files s made.place (slice_get (take made.place outs))

    named : slice_get (item_names s) made.place ≡ Some made.page.name
    named = slice_get-map (λ (i : SiteItem). i.name) s.items made.place ∙ ap (option_map (λ (i : SiteItem). i.name)) made.stands

    came : CameTo (given_of files s empty) outs made.place made.page.name
    came = (fold_gives (given_of files s empty) (fixed_bytes files s) outs fold).1 made.place made.page.name named

    -- the file there is what it came to
    file : get (tree_of files s outs) path ≡ Some came.0.output
    file = tree_at files s outs path ∙ ap (option_and_then (winner_bytes files s outs)) made.wins ∙ ap (option_and_then outcome_bytes) came.2

    -- it is only evaluated, where its variables are those of a page of XML, which the configuration asks for
    bare : setting (codes "ext") (plain made.page.vars) ≡ text (codes ".xml") → setting (codes "layout") (plain made.page.vars) ≡ nil → (s.config.make_feed ≡ true) ⊎ (s.config.make_sitemap ≡ true) → IsBare view made.page.body made.page.name
    bare ext layout asked =
        bare_law files s made.place (slice_get (take made.place outs)) made.place made.page (stands s.items lawful.items_differ made.place made.page made.stands) ext layout
        (xml_unlisted s.config comes.made.unmarked asked)

  -- ---- the feed

  module _ (made : IsMadeAt s (codes "feed.xml")) where
    the_feed : (made.page ≡ feed_page s.config) × (s.config.make_feed ≡ true)
    the_feed =
        at_place (IsOnly (codes "feed.xml") (feed_page s.config) s.config.make_feed) s.items made.place made.page made.stands (feed_only s.config s.statics comes.paged s.items comes.wholes comes.made) made.named

    feed_bare : IsBare (view (codes "feed.xml") made) feed_template made.page.name
    feed_bare =
        subst (λ (body : List ℕ). IsBare (view (codes "feed.xml") made) body made.page.name) (ap (λ (i : SiteItem). i.body) the_feed.0)
        (bare (codes "feed.xml") made (ap (λ (i : SiteItem). setting (codes "ext") (plain i.vars)) the_feed.0) (ap (λ (i : SiteItem). setting (codes "layout") (plain i.vars)) the_feed.0) (inl the_feed.1))

    feed_made : (came (codes "feed.xml") made).0 ≡ page (feed_text s outs)
    feed_made =
        item_text_law (view (codes "feed.xml") made) (feed_given s (content_of s outs))
        (site_law files s made.place (slice_get (take made.place outs)) (content_of s outs)
        (ten_rendered files moment settings s outs is read fold made.place made.page made.stands (ap (λ (i : SiteItem). i.group) the_feed.0)))
        made.page.name feed_bare (came (codes "feed.xml") made).0 (came (codes "feed.xml") made).1

    feed_file : get (tree_of files s outs) (codes "feed.xml") ≡ Some (feed_text s outs)
    feed_file = file (codes "feed.xml") made ∙ ap (λ (p : Made). Some p.output) feed_made

  -- ---- the sitemap

  module _ (made : IsMadeAt s (codes "sitemap.xml")) (before : List SiteItem) (reached : unmapped files moment settings ≡ Ok before) where
    abbrev listed_pages : List MapPage
    listed_pages = mapped_pages s before

    before_is : comes.made.before ≡ before
    before_is = let both : ◌≡◌ {A = Found (List SiteItem)} (Ok comes.made.before) (Ok before) = sym comes.before ∙ reached in cc (both)

    the_map : (made.page ≡ sitemap_page s.config listed_pages) × (s.config.make_sitemap ≡ true)
    the_map =
        let only =
        at_place (IsOnly (codes "sitemap.xml") (sitemap_page s.config (mapped_pages s comes.made.before)) s.config.make_sitemap) s.items made.place made.page made.stands
        (sitemap_only s.config s.statics comes.paged s.items comes.wholes comes.made) made.named
        in
        (only.0 ∙ ap (λ (items : List SiteItem). sitemap_page s.config (mapped_pages s items)) before_is, only.1)

    map_bare : IsBare (view (codes "sitemap.xml") made) (sitemap (site_front s) listed_pages) made.page.name
    map_bare =
        subst (λ (body : List ℕ). IsBare (view (codes "sitemap.xml") made) body made.page.name) (ap (λ (i : SiteItem). i.body) the_map.0)
        (bare (codes "sitemap.xml") made (ap (λ (i : SiteItem). setting (codes "ext") (plain i.vars)) the_map.0) (ap (λ (i : SiteItem). setting (codes "layout") (plain i.vars)) the_map.0) (inr the_map.1))

    map_file : Lists (get (tree_of files s outs) (codes "sitemap.xml")) (addresses (site_front s) listed_pages)
    map_file =
        let is = sitemap_item_law (view (codes "sitemap.xml") made) (site_front s) listed_pages made.page.name map_bare (came (codes "sitemap.xml") made).0 (came (codes "sitemap.xml") made).1 in
        record { body = sitemap (site_front s) listed_pages; there = file (codes "sitemap.xml") made ∙ ap (λ (p : Made). Some p.output) is.0; lists = is.1 }

pub feed_law : FeedLaw
feed_law files moment settings s outs is read fold made = feed_file files moment settings s outs is read fold made

pub sitemap_law : SitemapLaw
sitemap_law files moment settings s outs before is read fold reached made = map_file files moment settings s outs is read fold made before reached

-- ---- what an output shows

-- the tree of what is written
tree_is : (files : Files) (moment : ℤ) (settings : Settings) (s : Site) (outs : List Outcome) (written : Written) → site files moment settings ≡ Ok s → rendered files s ≡ Gave outs → full files moment settings ≡ Ok written → tree_of files s outs ≡ written.tree
tree_is files moment settings s outs written read fold full_is =
    let made : Written = written_by files (record { site = s; outs = outs }) in
    let whole : full files moment settings ≡ Ok made = ap (written_in files) read ∙ ap (λ (f : Folded). whole_by s f >>= λ w. Ok (written_by files w)) fold in
    let same : ◌≡◌ {A = Found Written} (Ok made) (Ok written) = sym whole ∙ full_is in
    let is : made ≡ written = cc (same) in
    ap (λ (w : Written). w.tree) is

-- a file of the tree is there, unless its step failed
file_there : (failed : List (List ℕ)) (written : Written) (told tells : Option Files) → MakesBut failed written told tells → (there : Files) → tells ≡ Some there
    → (path bytes : List ℕ) → is_listed path failed ≡ false → get written.tree path ≡ Some bytes → get there path ≡ Some bytes
file_there failed written told tells makes there tells_is path bytes spared found =
    let both : Some makes.new ≡ Some there = sym makes.tells_is ∙ tells_is in
    let same : makes.new ≡ there = cc (both) in
    subst (λ (new : Files). get new path ≡ Some bytes) same (makes.exactly.files path spared (ap is_some found) ∙ found)

pub shown : (files : Files) (moment : ℤ) (settings : Settings) (failed : List (List ℕ)) (written : Written) (told tells : Option Files) → full files moment settings ≡ Ok written → MakesBut failed written told tells → Shows files moment settings failed tells
shown files moment settings failed written told tells full_is makes s outs before there is read fold reached tells_is =
    let tree = tree_is files moment settings s outs written read fold full_is in
    let feed : ShowsFeed s outs failed there = λ made spared.
    file_there failed written told tells makes there tells_is (codes "feed.xml") (feed_text s outs) spared
    (ap (λ (files' : Files). get files' (codes "feed.xml")) (sym tree) ∙ feed_law files moment settings s outs is read fold made)
    in
    let map : ShowsSitemap s before failed there = λ made spared.
    let lists = sitemap_law files moment settings s outs before is read fold reached made in
    record {
      body = lists.body;
      there = file_there failed written told tells makes there tells_is (codes "sitemap.xml") lists.body spared (ap (λ (files' : Files). get files' (codes "sitemap.xml")) (sym tree) ∙ lists.there);
      lists = lists.lists;
    }
    in
    (feed, map)
