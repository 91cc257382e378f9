-- The pages that a sitemap lists rise as the paths of the winners do.
use Rattle.std.proofs.Common.{◌≡◌, ℕ, Bool, true, false, List, [], ◌∷◌, ◌++◌, codes, map, nat_eq, Option, Some, None, is_lt, if◌then◌else◌, refl, ap}
use Rattle.std.specs.FinMap.Entries.{below_all, is_sorted}
use Rattle.std.specs.List.{cons_option, ends_with}
use Rattle.std.specs.Prelude.{◌&&◌, filter_map}
use Rattle.site_base.specs.Places.{PathsRise, path_cmp}
use Rattle.site_items.specs.declared.static_file.StaticFile.{StaticFile}
use Rattle.feed_pages.specs.Sitemap.{PagesRise}
use Rattle.feed_pages.specs.declared.sitemap.MapPage.{MapPage}
use Rattle.site_reader.specs.Generating.{if_mapped, map_page_at, winner_url}
use Rattle.site_reader.specs.Winners.{Winners}
use Rattle.site_reader.specs.declared.site_item.SiteItem.{SiteItem}
use Rattle.site_reader.proofs.RisingLaws.{both}

-- one page more, before what follows
pub one_more : {A : Type 0} (made : List A) (o : Option A) (rest : List A) → (made ++ cons_option o []) ++ rest ≡ made ++ cons_option o rest
one_more [] None rest = refl
one_more [] (Some x) rest = refl
one_more (y ∷ made) o rest = ap (λ l. y ∷ l) (one_more made o rest)

halves : (a b : Bool) → (a && b) ≡ true → (a ≡ true) × (b ≡ true)
halves true b e = (refl, e)
halves false b e = absurd (cc (e))

abbrev shown : List MapPage → List (List ℕ × List ℕ)
shown pages = map (λ page. (page.dest, page.url)) pages

module _ (items : List SiteItem) (copies : List StaticFile) where
  below : (k : List ℕ) (won : Winners) → below_all path_cmp k won ≡ true → below_all path_cmp k (shown (filter_map (if_mapped items copies) won)) ≡ true
  below k [] h = refl
  below k (e ∷ es) h =
      let parts = halves (is_lt (path_cmp k e.0)) (below_all path_cmp k es) h in
      by (ends_with nat_eq e.0 (codes ".html")) (winner_url items copies e.1) (filter_map (if_mapped items copies) es) parts.0 (below k es parts.1)
    where
      by : (b : Bool) (url : Option (List ℕ)) (rest : List MapPage) → is_lt (path_cmp k e.0) ≡ true → below_all path_cmp k (shown rest) ≡ true
          → below_all path_cmp k (shown (cons_option (if b then map_page_at e.0 url else None) rest)) ≡ true
      by true (Some url) rest lower h = both _ _ lower h
      by true None rest lower h = h
      by false url rest lower h = h

  pub listed_rise : (won : Winners) → PathsRise won → PagesRise (filter_map (if_mapped items copies) won)
  listed_rise [] h = refl
  listed_rise (e ∷ es) h =
      let parts = halves (below_all path_cmp e.0 es) (is_sorted path_cmp es) h in
      by (ends_with nat_eq e.0 (codes ".html")) (winner_url items copies e.1) (filter_map (if_mapped items copies) es) (below e.0 es parts.0) (listed_rise es parts.1)
    where
      by : (b : Bool) (url : Option (List ℕ)) (rest : List MapPage) → below_all path_cmp e.0 (shown rest) ≡ true → PagesRise rest
          → PagesRise (cons_option (if b then map_page_at e.0 url else None) rest)
      by true (Some url) rest lower h = both _ _ lower h
      by true None rest lower h = h
      by false url rest lower h = h
