-- Worked rows: sitemaps of a few pages.
use Rattle.std.proofs.Common.{◌≡◌, refl, ℕ, List, [], ◌∷◌, ◌++◌, codes}
use Rattle.permalinks.specs.Addresses.{front}
use Rattle.feed_pages.specs.Located.{located}
use Rattle.feed_pages.specs.Sitemap.{addresses, sitemap}
use Rattle.feed_pages.specs.declared.sitemap.MapPage.{MapPage}

abbrev page : List ℕ → List ℕ → MapPage
page dest url = record { dest = dest; url = url }

two : sitemap (codes "https://e.org") (page (codes "a.html") (codes "/a.html") ∷ page (codes "tag/z/index.html") (codes "/tag/z/") ∷ [])
    ≡ codes "<?xml version=\"1.0\" encoding=\"utf-8\"?>\n<urlset xmlns=\"http://www.sitemaps.org/schemas/sitemap/0.9\">\n<url><loc>https://e.org/a.html</loc></url>\n<url><loc>https://e.org/tag/z/</loc></url>\n</urlset>\n"
two = refl

no_page : sitemap (codes "https://e.org") [] ≡ codes "<?xml version=\"1.0\" encoding=\"utf-8\"?>\n<urlset xmlns=\"http://www.sitemaps.org/schemas/sitemap/0.9\">\n</urlset>\n"
no_page = refl

-- 195 and 169 are the bytes of a letter beyond ASCII
signs : addresses (codes "https://e.org") (page (codes "a.html") (codes "/a b&c{d" ++ 195 ∷ 169 ∷ codes ".html") ∷ []) ≡ codes "https://e.org/a%20b&amp;c%7Bd%C3%A9.html" ∷ []
signs = refl

-- what would end the line is no such sign
hostile : addresses [] (page (codes "a.html") (codes "/</loc>\"'.html") ∷ []) ≡ codes "/%3C/loc%3E%22'.html" ∷ []
hostile = refl

read : located (sitemap (codes "https://e.org") (page (codes "a.html") (codes "/a&b.html") ∷ page (codes "b.html") (codes "/<loc>.html") ∷ []))
    ≡ codes "https://e.org/a&amp;b.html" ∷ codes "https://e.org/%3Cloc%3E.html" ∷ []
read = refl

-- a base with and without `/` at its ends, and a URL without one in front
based : addresses (front (codes "https://e.org") (codes "/b/")) (page (codes "a.html") (codes "/a.html") ∷ []) ≡ codes "https://e.org/b/a.html" ∷ []
based = refl

bare : addresses (front (codes "https://e.org") (codes "b")) (page (codes "a.html") (codes "a.html") ∷ []) ≡ codes "https://e.org/b/a.html" ∷ []
bare = refl

-- as the filter does, only the base loses its last `/`
ended : addresses (front (codes "https://e.org/") []) (page (codes "a.html") (codes "/a.html") ∷ []) ≡ codes "https://e.org//a.html" ∷ []
ended = refl
