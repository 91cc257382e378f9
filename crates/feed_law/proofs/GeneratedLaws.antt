-- Which of the items of a site are its feed and its sitemap.
use Rattle.std.proofs.Common.{◌≡◌, ◌≢◌, ◌∙◌, refl, sym, ap, subst, ℕ, zero, suc, Bool, true, false, ◌&&◌, ◌||◌, if◌then◌else◌, ◌⊎◌, inl, inr, List, [], ◌∷◌, ◌++◌, codes, map, Some, Ok, Err, arith}
use Rattle.std.specs.Prelude.{slice_get}
use Rattle.std.specs.List.{AllByRecursion}
use Rattle.site_base.specs.Chains.{◌>>=◌}
use Rattle.site_base.specs.Faults.{fault_at}
use Rattle.site_base.specs.declared.faults.FaultKind.TheVariants as fault
use Rattle.site_base.specs.declared.item_name.ItemName.{ItemName}
use Rattle.site_config.specs.declared.config.Config.{Config}
use Rattle.site_items.specs.declared.static_file.StaticFile.{StaticFile}
use Rattle.site_text.specs.Extensions.{is_listed}
use Rattle.site_reader.specs.Generating.{feed_page, feed_pages, generated, listed, mapped, marks_xml, sitemap_page, sitemap_pages, with_archives_and_feed}
use Rattle.site_reader.specs.Making as making
use Rattle.site_reader.specs.Placing.{config_path}
use Rattle.site_reader.specs.declared.site_item.SiteItem.{SiteItem}
use Rattle.tag_archives.specs.Archives.{folder}
use Rattle.tag_archives.specs.declared.archive.ArchiveWord.{ArchiveWord}
use Rattle.tag_archives.specs.declared.archive.ArchiveWord.TheVariants.{Category, Tag}
use Rattle.feed_pages.specs.declared.sitemap.MapPage.{MapPage}
use Rattle.site_reader.specs.Archived.{IsBelow}
use Rattle.site_reader.proofs.GeneratedItems.{asked, below_asked}
use Rattle.site_reader.proofs.MadeItems.{all_joined, all_turned, made_all}
use Rattle.site_reader.proofs.Weights.{found_before, found_value}

-- the name of a page that is made besides
abbrev pub made_name : List ℕ → ItemName
made_name path = record { path = path; part = 1 }

-- where an item has this name it is this page, which was asked for
abbrev pub IsOnly : List ℕ → SiteItem → Bool → SiteItem → Type 0
IsOnly path page asked i = i.name ≡ made_name path → (i ≡ page) × (asked ≡ true)

-- no archive stands at this path
abbrev IsBeside : List ℕ → Type 0
IsBeside path = (word : ArchiveWord) (rest : List ℕ) → path ≡ folder word ++ rest → ⊥

-- ---- the items, by the step that makes them

module _ (path : List ℕ) (page : SiteItem) (wanted : Bool) where
  abbrev Only : SiteItem → Type 0
  Only i = IsOnly path page wanted i

  wholes_only : (items : List SiteItem) → AllByRecursion (λ (i : SiteItem). i.name.part ≢ 1) items → AllByRecursion Only items
  wholes_only items h = all_turned (λ (i : SiteItem). i.name.part ≢ 1) Only items (λ i other same. absurd (other (ap (λ (n : ItemName). n.part) same))) h

  below_only : IsBeside path → (word : ArchiveWord) (items : List SiteItem) → AllByRecursion (IsBelow word) items → AllByRecursion Only items
  below_only beside word items h =
      all_turned (IsBelow word) Only items (λ i below same. absurd (beside word below.rest (sym (ap (λ (n : ItemName). n.path) same) ∙ below.path))) h

  archives_only : IsBeside path → (config : Config) (items pages : List SiteItem) → making.archive_pages config items ≡ Ok pages → AllByRecursion Only pages
  archives_only beside config items pages e =
      let first = found_before (making.add_pages config items Category []) (making.add_pages config items Tag) pages e in
      let categories = asked config Category items [] first.0 first.1 in
      let tags = asked config Tag items first.0 pages first.2 in
      let of_categories = map (making.archive_page config Category) categories.made in
      let of_tags = map (making.archive_page config Tag) tags.made in
      subst (AllByRecursion Only) (ap (λ before. before ++ of_tags) categories.same ∙ tags.same)
      (all_joined Only of_categories of_tags
      (below_only beside Category of_categories (below_asked config Category _ _ categories.made categories.are))
      (below_only beside Tag of_tags (below_asked config Tag _ _ tags.made tags.are)))

  made_only : IsBeside path → (config : Config) (copies : List StaticFile) (items before made : List SiteItem) → AllByRecursion (λ (i : SiteItem). i.name.part ≢ 1) items
      → with_archives_and_feed config items ≡ Ok before → mapped config copies before ≡ made
      → AllByRecursion Only (feed_pages config) → AllByRecursion Only (sitemap_pages config copies before) → AllByRecursion Only made
  made_only beside config copies items before made wholes first last feeds maps =
      let pages = found_before (making.archive_pages config items) _ before first in
      let besides = all_joined Only pages.0 (feed_pages config) (archives_only beside config items pages.0 pages.1) feeds in
      let second : AllByRecursion Only before =
      subst (AllByRecursion Only) (found_value _ before pages.2) (made_all config items (pages.0 ++ feed_pages config) Only (wholes_only items wholes) besides)
      in
      subst (AllByRecursion Only) last (made_all config before (sitemap_pages config copies before) Only second maps)

-- ---- the feed and the sitemap

first_byte : List ℕ → ℕ
first_byte [] = 0
first_byte (c ∷ cs) = c

feed_beside : IsBeside (codes "feed.xml")
unfolding first_byte
feed_beside Tag rest e = let letters : 102 ≡ 116 = ap first_byte e in absurd (omega (arith, letters))
feed_beside Category rest e = let letters : 102 ≡ 99 = ap first_byte e in absurd (omega (arith, letters))

map_beside : IsBeside (codes "sitemap.xml")
unfolding first_byte
map_beside Tag rest e = let letters : 115 ≡ 116 = ap first_byte e in absurd (omega (arith, letters))
map_beside Category rest e = let letters : 115 ≡ 99 = ap first_byte e in absurd (omega (arith, letters))

names_differ : made_name (codes "feed.xml") ≢ made_name (codes "sitemap.xml")
unfolding first_byte
names_differ same = let letters : 102 ≡ 115 = ap (λ (n : ItemName). first_byte n.path) same in absurd (omega (arith, letters))

abbrev pub FeedOnly : Config → SiteItem → Type 0
FeedOnly config i = IsOnly (codes "feed.xml") (feed_page config) config.make_feed i

abbrev pub MapOnly : Config → List MapPage → SiteItem → Type 0
MapOnly config pages i = IsOnly (codes "sitemap.xml") (sitemap_page config pages) config.make_sitemap i

-- how the items of a site come of those before
pub record IsGenerated (config : Config) (copies : List StaticFile) (items made : List SiteItem) : Type 0 where
  pub unmarked : marks_xml config ≡ false
  pub before : List SiteItem
  pub first : with_archives_and_feed config items ≡ Ok before
  pub last : mapped config copies before ≡ made

pub is_generated : (config : Config) (copies : List StaticFile) (items made : List SiteItem) → generated config copies items ≡ Ok made → IsGenerated config copies items made
is_generated config copies items made e = by (marks_xml config) refl e
  where
    by : (b : Bool) → marks_xml config ≡ b → (if b then Err (fault_at fault.Config config_path) else with_archives_and_feed config items >>= λ made. Ok (mapped config copies made)) ≡ Ok made → IsGenerated config copies items made
    by true is e = absurd (cc (e))
    by false is e =
        let first = found_before (with_archives_and_feed config items) _ made e in
        record { unmarked = is; before = first.0; first = first.1; last = found_value _ made first.2 }

module _ (config : Config) (copies : List StaticFile) (items made : List SiteItem) (wholes : AllByRecursion (λ (i : SiteItem). i.name.part ≢ 1) items) (is : IsGenerated config copies items made) where
  pub feed_only : AllByRecursion (FeedOnly config) made
  feed_only =
      made_only (codes "feed.xml") (feed_page config) config.make_feed feed_beside config copies items is.before made wholes is.first is.last (feeds config.make_feed refl) (maps config.make_sitemap)
    where
      feeds : (b : Bool) → config.make_feed ≡ b → AllByRecursion (FeedOnly config) (if b then feed_page config ∷ [] else [])
      feeds true asked = ((λ same. (refl, asked)), tt)
      feeds false asked = tt

      maps : (b : Bool) → AllByRecursion (FeedOnly config) (if b then sitemap_page config (listed config is.before copies) ∷ [] else [])
      maps true = ((λ same. absurd (names_differ (sym same))), tt)
      maps false = tt

  pub sitemap_only : AllByRecursion (MapOnly config (listed config is.before copies)) made
  sitemap_only =
      made_only (codes "sitemap.xml") (sitemap_page config (listed config is.before copies)) config.make_sitemap map_beside config copies items is.before made wholes is.first is.last
      (feeds config.make_feed) (maps config.make_sitemap refl)
    where
      feeds : (b : Bool) → AllByRecursion (MapOnly config (listed config is.before copies)) (if b then feed_page config ∷ [] else [])
      feeds true = ((λ same. absurd (names_differ same)), tt)
      feeds false = tt

      maps : (b : Bool) → config.make_sitemap ≡ b → AllByRecursion (MapOnly config (listed config is.before copies)) (if b then sitemap_page config (listed config is.before copies) ∷ [] else [])
      maps true asked = ((λ same. (refl, asked)), tt)
      maps false asked = tt

-- where either is asked for, `.xml` is no extension of Markdown
pub xml_unlisted : (config : Config) → marks_xml config ≡ false → (config.make_feed ≡ true) ⊎ (config.make_sitemap ≡ true) → is_listed config.markdown_ext (codes ".xml") ≡ false
xml_unlisted config unmarked asked = by config.make_feed config.make_sitemap (is_listed config.markdown_ext (codes ".xml")) unmarked asked
  where
    by : (feed map xml : Bool) → ((feed || map) && xml) ≡ false → (feed ≡ true) ⊎ (map ≡ true) → xml ≡ false
    by true map xml e asked = e
    by false true xml e asked = e
    by false false xml e (inl asked) = absurd (cc (asked))
    by false false xml e (inr asked) = absurd (cc (asked))

-- what holds of all items holds of the one at a place
pub at_place : {A : Type 0} (P : A → Type 0) (xs : List A) (place : ℕ) (x : A) → slice_get xs place ≡ Some x → AllByRecursion P xs → P x
at_place P [] place x e h = absurd (cc (e))
at_place P (y ∷ xs) zero x e h = let same : y ≡ x = cc (e) in subst P same h.0
at_place P (y ∷ xs) (suc place) x e h = at_place P xs place x e h.1
