-- The sitemap of a site. After the Sitemaps protocol (sitemaps.org, schema 0.9) and XML 1.0, section 2.4 (escapes).
use Rattle.std.specs.Prelude.{List, codes, flat_map, map, ℕ, ◌++◌}
use Rattle.permalinks.specs.Addresses.{behind_slash}
use Rattle.site_base.specs.Places.{PathsRise}
use Rattle.site_text.specs.Urls.{url_text}
use Rattle.feed_pages.specs.declared.sitemap.MapPage.{MapPage}

-- the address of a page, after what stands in front of all
abbrev pub address_of : List ℕ → MapPage → List ℕ
address_of base page = url_text (base ++ behind_slash page.url)

-- the addresses of these pages, each once
abbrev pub addresses : List ℕ → List MapPage → List (List ℕ)
addresses base pages = map (address_of base) pages

-- the line of an address
abbrev pub url_line : List ℕ → List ℕ
url_line address = codes "<url><loc>" ++ (address ++ codes "</loc></url>\n")

abbrev pub map_head : List ℕ
map_head = codes "<?xml version=\"1.0\" encoding=\"utf-8\"?>\n<urlset xmlns=\"http://www.sitemaps.org/schemas/sitemap/0.9\">\n"

-- the text that lists these addresses
abbrev pub listing : List (List ℕ) → List ℕ
listing addresses = map_head ++ (flat_map url_line addresses ++ codes "</urlset>\n")

abbrev pub sitemap : List ℕ → List MapPage → List ℕ
sitemap base pages = listing (addresses base pages)

-- their destinations differ, and stand in byte order
abbrev pub PagesRise : List MapPage → Type 0
PagesRise pages = PathsRise (map (λ page. (page.dest, page.url)) pages)
