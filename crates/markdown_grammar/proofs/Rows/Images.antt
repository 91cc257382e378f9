-- Images: CommonMark 0.31.2, section 6.4. Each row is a text and its HTML, computed.
use Rattle.std.proofs.Common.{◌≡◌, refl, codes}
use Rattle.markdown_grammar.specs.Html.{html}

images_1 : html (codes "![foo](/url \"title\")\n") ≡ codes "<p><img src=\"/url\" alt=\"foo\" title=\"title\" /></p>\n"
unfolding html
images_1 = refl

images_2 : html (codes "![foo *bar*]\n\n[foo *bar*]: train.jpg \"train & tracks\"\n") ≡ codes "<p><img src=\"train.jpg\" alt=\"foo bar\" title=\"train &amp; tracks\" /></p>\n"
unfolding html
images_2 = refl

images_3 : html (codes "![foo ![bar](/url)](/url2)\n") ≡ codes "<p><img src=\"/url2\" alt=\"foo bar\" /></p>\n"
unfolding html
images_3 = refl

images_4 : html (codes "![foo [bar](/url)](/url2)\n") ≡ codes "<p><img src=\"/url2\" alt=\"foo bar\" /></p>\n"
unfolding html
images_4 = refl

images_5 : html (codes "![foo](<url>)\n") ≡ codes "<p><img src=\"url\" alt=\"foo\" /></p>\n"
unfolding html
images_5 = refl

images_6 : html (codes "![](/url)\n") ≡ codes "<p><img src=\"/url\" alt=\"\" /></p>\n"
unfolding html
images_6 = refl

images_7 : html (codes "![foo][bar]\n\n[bar]: /url\n") ≡ codes "<p><img src=\"/url\" alt=\"foo\" /></p>\n"
unfolding html
images_7 = refl

images_8 : html (codes "!\\[foo]\n\n[foo]: /url\n") ≡ codes "<p>![foo]</p>\n"
unfolding html
images_8 = refl

images_9 : html (codes "\\![foo]\n\n[foo]: /url \"title\"\n") ≡ codes "<p>!<a href=\"/url\" title=\"title\">foo</a></p>\n"
unfolding html
images_9 = refl

images_10 : html (codes "![a *b* `c`](u)\n") ≡ codes "<p><img src=\"u\" alt=\"a b c\" /></p>\n"
unfolding html
images_10 = refl
