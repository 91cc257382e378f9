-- The sitemap has no `{`, so its item comes to its text.
use Rattle.std.proofs.Common.{◌≡◌, ◌∙◌, refl, ℕ, ◌==◌, Bool, true, false, ◌||◌, List, [], ◌∷◌, ◌++◌, codes, flat_map}
use Rattle.std.proofs.lemmas.List.Folds.{list_any-append}
use Rattle.permalinks.specs.Addresses.{behind_slash}
use Rattle.site_text.specs.Urls.{url_byte, url_text}
use Rattle.feed_pages.specs.Located.{has_brace}
use Rattle.feed_pages.specs.Sitemap.{address_of, addresses, map_head, sitemap, url_line}
use Rattle.feed_pages.specs.declared.sitemap.MapPage.{MapPage}
use Rattle.feed_pages.proofs.SitemapLaws.{byte_no_brace, sitemap_located}
use Rattle.feed_law.specs.SitemapItems.{SitemapItemLaw}
use Rattle.feed_law.proofs.PlainTextLaws.{plain_page_law}

-- ---- texts without `{`

neither : (a b : Bool) → a ≡ false → b ≡ false → (a || b) ≡ false
neither true b h k = h
neither false b h k = k

joined : (t u : List ℕ) → has_brace t ≡ false → has_brace u ≡ false → has_brace (t ++ u) ≡ false
joined t u h k = list_any-append (λ c. c == 123) t u ∙ neither (has_brace t) (has_brace u) h k

address_plain : (t : List ℕ) → has_brace (url_text t) ≡ false
address_plain [] = refl
address_plain (c ∷ cs) = joined (url_byte c) (url_text cs) (byte_no_brace c) (address_plain cs)

module _ (base : List ℕ) where
  line_plain : (t : List ℕ) → has_brace t ≡ false → has_brace (url_line t) ≡ false
  line_plain t h = joined (codes "<url><loc>") (t ++ codes "</loc></url>\n") refl (joined t (codes "</loc></url>\n") h refl)

  lines_plain : (pages : List MapPage) → has_brace (flat_map url_line (addresses base pages)) ≡ false
  lines_plain [] = refl
  lines_plain (p ∷ ps) =
      joined (url_line (address_of base p)) (flat_map url_line (addresses base ps)) (line_plain (address_of base p) (address_plain (base ++ behind_slash p.url))) (lines_plain ps)

  pub sitemap_plain : (pages : List MapPage) → has_brace (sitemap base pages) ≡ false
  sitemap_plain pages =
      joined map_head (flat_map url_line (addresses base pages) ++ codes "</urlset>\n") refl
      (joined (flat_map url_line (addresses base pages)) (codes "</urlset>\n") (lines_plain pages) refl)

-- ---- the item

pub sitemap_item_law : SitemapItemLaw
sitemap_item_law view base pages n bare made e = (plain_page_law view (sitemap base pages) (sitemap_plain base pages) n bare made e, sitemap_located base pages)
