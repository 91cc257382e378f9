-- Links: CommonMark 0.31.2, section 6.3. Each row is a text and its HTML, computed.
use Rattle.std.proofs.Common.{◌≡◌, [], ◌∷◌, refl, codes}
use Rattle.markdown_grammar.specs.Html.{html}

links_1 : html (codes "[link](/uri \"title\")\n") ≡ codes "<p><a href=\"/uri\" title=\"title\">link</a></p>\n"
unfolding html
links_1 = refl

links_2 : html (codes "[link](/uri)\n") ≡ codes "<p><a href=\"/uri\">link</a></p>\n"
unfolding html
links_2 = refl

links_3 : html (codes "[](./target.md)\n") ≡ codes "<p><a href=\"./target.md\"></a></p>\n"
unfolding html
links_3 = refl

links_4 : html (codes "[link]()\n") ≡ codes "<p><a href=\"\">link</a></p>\n"
unfolding html
links_4 = refl

links_5 : html (codes "[link](<>)\n") ≡ codes "<p><a href=\"\">link</a></p>\n"
unfolding html
links_5 = refl

links_6 : html (codes "[](/)\n") ≡ codes "<p><a href=\"/\"></a></p>\n"
unfolding html
links_6 = refl

links_7 : html (codes "[link](/my uri)\n") ≡ codes "<p>[link](/my uri)</p>\n"
unfolding html
links_7 = refl

links_8 : html (codes "[link](</my uri>)\n") ≡ codes "<p><a href=\"/my%20uri\">link</a></p>\n"
unfolding html
links_8 = refl

links_9 : html (codes "[link](foo\nbar)\n") ≡ codes "<p>[link](foo\nbar)</p>\n"
unfolding html
links_9 = refl

links_10 : html (codes "[link](<foo\nbar>)\n") ≡ codes "<p>[link](<foo\nbar>)</p>\n"
unfolding html
links_10 = refl

links_11 : html (codes "[a](<b)c>)\n") ≡ codes "<p><a href=\"b)c\">a</a></p>\n"
unfolding html
links_11 = refl

links_12 : html (codes "[link](<foo\\>)\n") ≡ codes "<p>[link](&lt;foo&gt;)</p>\n"
unfolding html
links_12 = refl

links_13 : html (codes "[a](<b)c\n[a](<b)c>\n[a](<b>c)\n") ≡ codes "<p>[a](&lt;b)c\n[a](&lt;b)c&gt;\n[a](<b>c)</p>\n"
unfolding html
links_13 = refl

links_14 : html (codes "[link](\\(foo\\))\n") ≡ codes "<p><a href=\"(foo)\">link</a></p>\n"
unfolding html
links_14 = refl

links_15 : html (codes "[link](foo(and(bar)))\n") ≡ codes "<p><a href=\"foo(and(bar))\">link</a></p>\n"
unfolding html
links_15 = refl

links_16 : html (codes "[link](foo(and(bar))\n") ≡ codes "<p>[link](foo(and(bar))</p>\n"
unfolding html
links_16 = refl

links_17 : html (codes "[link](foo\\(and\\(bar\\))\n") ≡ codes "<p><a href=\"foo(and(bar)\">link</a></p>\n"
unfolding html
links_17 = refl

links_18 : html (codes "[link](<foo(and(bar)>)\n") ≡ codes "<p><a href=\"foo(and(bar)\">link</a></p>\n"
unfolding html
links_18 = refl

links_19 : html (codes "[link](foo\\)\\:)\n") ≡ codes "<p><a href=\"foo):\">link</a></p>\n"
unfolding html
links_19 = refl

links_20 : html (codes "[link](#fragment)\n\n[link](https://example.com?foo=3#frag)\n") ≡ codes "<p><a href=\"#fragment\">link</a></p>\n<p><a href=\"https://example.com?foo=3#frag\">link</a></p>\n"
unfolding html
links_20 = refl

links_21 : html (codes "[link](foo\\bar)\n") ≡ codes "<p><a href=\"foo%5Cbar\">link</a></p>\n"
unfolding html
links_21 = refl

links_22 : html (codes "[link](foo%20b&auml;)\n") ≡ codes "<p><a href=\"foo%20b%C3%A4\">link</a></p>\n"
unfolding html
links_22 = refl

links_23 : html (codes "[link](\"title\")\n") ≡ codes "<p><a href=\"%22title%22\">link</a></p>\n"
unfolding html
links_23 = refl

links_24 : html (codes "[link](/url \"title\")\n[link](/url 'title')\n[link](/url (title))\n") ≡ codes "<p><a href=\"/url\" title=\"title\">link</a>\n<a href=\"/url\" title=\"title\">link</a>\n<a href=\"/url\" title=\"title\">link</a></p>\n"
unfolding html
links_24 = refl

links_25 : html (codes "[link](/url \"title \\\"&quot;\")\n") ≡ codes "<p><a href=\"/url\" title=\"title &quot;&quot;\">link</a></p>\n"
unfolding html
links_25 = refl

links_26 : html (codes "[link](/url \"title \"and\" title\")\n") ≡ codes "<p>[link](/url &quot;title &quot;and&quot; title&quot;)</p>\n"
unfolding html
links_26 = refl

links_27 : html (codes "[link](/url 'title \"and\" title')\n") ≡ codes "<p><a href=\"/url\" title=\"title &quot;and&quot; title\">link</a></p>\n"
unfolding html
links_27 = refl

links_28 : html (codes "[link](   /uri\n  \"title\"  )\n") ≡ codes "<p><a href=\"/uri\" title=\"title\">link</a></p>\n"
unfolding html
links_28 = refl

links_29 : html (codes "[link] (/uri)\n") ≡ codes "<p>[link] (/uri)</p>\n"
unfolding html
links_29 = refl

links_30 : html (codes "[link [foo [bar]]](/uri)\n") ≡ codes "<p><a href=\"/uri\">link [foo [bar]]</a></p>\n"
unfolding html
links_30 = refl

links_31 : html (codes "[link] bar](/uri)\n") ≡ codes "<p>[link] bar](/uri)</p>\n"
unfolding html
links_31 = refl

links_32 : html (codes "[link [bar](/uri)\n") ≡ codes "<p>[link <a href=\"/uri\">bar</a></p>\n"
unfolding html
links_32 = refl

links_33 : html (codes "[link \\[bar](/uri)\n") ≡ codes "<p><a href=\"/uri\">link [bar</a></p>\n"
unfolding html
links_33 = refl

links_34 : html (codes "[link *foo **bar** `#`*](/uri)\n") ≡ codes "<p><a href=\"/uri\">link <em>foo <strong>bar</strong> <code>#</code></em></a></p>\n"
unfolding html
links_34 = refl

links_35 : html (codes "[![moon](moon.jpg)](/uri)\n") ≡ codes "<p><a href=\"/uri\"><img src=\"moon.jpg\" alt=\"moon\" /></a></p>\n"
unfolding html
links_35 = refl

links_36 : html (codes "[foo [bar](/uri)](/uri)\n") ≡ codes "<p>[foo <a href=\"/uri\">bar</a>](/uri)</p>\n"
unfolding html
links_36 = refl

links_37 : html (codes "[foo *[bar [baz](/uri)](/uri)*](/uri)\n") ≡ codes "<p>[foo <em>[bar <a href=\"/uri\">baz</a>](/uri)</em>](/uri)</p>\n"
unfolding html
links_37 = refl

links_38 : html (codes "![[[foo](uri1)](uri2)](uri3)\n") ≡ codes "<p><img src=\"uri3\" alt=\"[foo](uri2)\" /></p>\n"
unfolding html
links_38 = refl

links_39 : html (codes "*[foo*](/uri)\n") ≡ codes "<p>*<a href=\"/uri\">foo*</a></p>\n"
unfolding html
links_39 = refl

links_40 : html (codes "[foo *bar](baz*)\n") ≡ codes "<p><a href=\"baz*\">foo *bar</a></p>\n"
unfolding html
links_40 = refl

links_41 : html (codes "*foo [bar* baz]\n") ≡ codes "<p><em>foo [bar</em> baz]</p>\n"
unfolding html
links_41 = refl

links_42 : html (codes "[foo <bar attr=\"](baz)\">\n") ≡ codes "<p>[foo <bar attr=\"](baz)\"></p>\n"
unfolding html
links_42 = refl

links_43 : html (codes "[foo`](/uri)`\n") ≡ codes "<p>[foo<code>](/uri)</code></p>\n"
unfolding html
links_43 = refl

links_44 : html (codes "[foo<https://example.com/?search=](uri)>\n") ≡ codes "<p>[foo<a href=\"https://example.com/?search=%5D(uri)\">https://example.com/?search=](uri)</a></p>\n"
unfolding html
links_44 = refl

links_45 : html (codes "[a](/x`y)\n") ≡ codes "<p><a href=\"/x%60y\">a</a></p>\n"
unfolding html
links_45 = refl

links_46 : html (codes "[a](((((((((((((((((((((((((((((((((b)))))))))))))))))))))))))))))))))\n") ≡ codes "<p><a href=\"((((((((((((((((((((((((((((((((b))))))))))))))))))))))))))))))))\">a</a></p>\n"
unfolding html
links_46 = refl

links_47 : html (codes "[a]((((((((((((((((((((((((((((((((((b))))))))))))))))))))))))))))))))))\n") ≡ codes "<p>[a]((((((((((((((((((((((((((((((((((b))))))))))))))))))))))))))))))))))</p>\n"
unfolding html
links_47 = refl

link_references_1 : html (codes "[foo][bar]\n\n[bar]: /url \"title\"\n") ≡ codes "<p><a href=\"/url\" title=\"title\">foo</a></p>\n"
unfolding html
link_references_1 = refl

link_references_2 : html (codes "[link [foo [bar]]][ref]\n\n[ref]: /uri\n") ≡ codes "<p><a href=\"/uri\">link [foo [bar]]</a></p>\n"
unfolding html
link_references_2 = refl

link_references_3 : html (codes "[foo [bar](/uri)][ref]\n\n[ref]: /uri\n") ≡ codes "<p>[foo <a href=\"/uri\">bar</a>]<a href=\"/uri\">ref</a></p>\n"
unfolding html
link_references_3 = refl

link_references_4 : html (codes "[foo *bar [baz][ref]*][ref]\n\n[ref]: /uri\n") ≡ codes "<p>[foo <em>bar <a href=\"/uri\">baz</a></em>]<a href=\"/uri\">ref</a></p>\n"
unfolding html
link_references_4 = refl

link_references_5 : html (codes "[foo][BaR]\n\n[bar]: /url \"title\"\n") ≡ codes "<p><a href=\"/url\" title=\"title\">foo</a></p>\n"
unfolding html
link_references_5 = refl

link_references_6 : html (codes "[Foo\n  bar]: /url\n\n[Baz][Foo bar]\n") ≡ codes "<p><a href=\"/url\">Baz</a></p>\n"
unfolding html
link_references_6 = refl

link_references_7 : html (codes "[foo] [bar]\n\n[bar]: /url \"title\"\n") ≡ codes "<p>[foo] <a href=\"/url\" title=\"title\">bar</a></p>\n"
unfolding html
link_references_7 = refl

link_references_8 : html (codes "[foo]: /url1\n\n[foo]: /url2\n\n[bar][foo]\n") ≡ codes "<p><a href=\"/url1\">bar</a></p>\n"
unfolding html
link_references_8 = refl

link_references_9 : html (codes "[bar][foo\\!]\n\n[foo!]: /url\n") ≡ codes "<p>[bar][foo!]</p>\n"
unfolding html
link_references_9 = refl

link_references_10 : html (codes "[foo][ref[]\n\n[ref[]: /uri\n") ≡ codes "<p>[foo][ref[]</p>\n<p>[ref[]: /uri</p>\n"
unfolding html
link_references_10 = refl

link_references_11 : html (codes "[foo][ref\\[]\n\n[ref\\[]: /uri\n") ≡ codes "<p><a href=\"/uri\">foo</a></p>\n"
unfolding html
link_references_11 = refl

link_references_12 : html (codes "[bar\\\\]: /uri\n\n[bar\\\\]\n") ≡ codes "<p><a href=\"/uri\">bar\\</a></p>\n"
unfolding html
link_references_12 = refl

link_references_13 : html (codes "[]\n\n[]: /uri\n") ≡ codes "<p>[]</p>\n<p>[]: /uri</p>\n"
unfolding html
link_references_13 = refl

link_references_14 : html (codes "[\n ]\n\n[\n ]: /uri\n") ≡ codes "<p>[\n]</p>\n<p>[\n]: /uri</p>\n"
unfolding html
link_references_14 = refl

link_references_15 : html (codes "[foo][]\n\n[foo]: /url \"title\"\n") ≡ codes "<p><a href=\"/url\" title=\"title\">foo</a></p>\n"
unfolding html
link_references_15 = refl

link_references_16 : html (codes "[*foo* bar][]\n\n[*foo* bar]: /url \"title\"\n") ≡ codes "<p><a href=\"/url\" title=\"title\"><em>foo</em> bar</a></p>\n"
unfolding html
link_references_16 = refl

link_references_17 : html (codes "[foo] \n[]\n\n[foo]: /url \"title\"\n") ≡ codes "<p><a href=\"/url\" title=\"title\">foo</a>\n[]</p>\n"
unfolding html
link_references_17 = refl

link_references_18 : html (codes "[foo]\n\n[foo]: /url \"title\"\n") ≡ codes "<p><a href=\"/url\" title=\"title\">foo</a></p>\n"
unfolding html
link_references_18 = refl

link_references_19 : html (codes "[[*foo* bar]]\n\n[*foo* bar]: /url \"title\"\n") ≡ codes "<p>[<a href=\"/url\" title=\"title\"><em>foo</em> bar</a>]</p>\n"
unfolding html
link_references_19 = refl

link_references_20 : html (codes "[[bar [foo]\n\n[foo]: /url\n") ≡ codes "<p>[[bar <a href=\"/url\">foo</a></p>\n"
unfolding html
link_references_20 = refl

link_references_21 : html (codes "\\[foo]\n\n[foo]: /url\n") ≡ codes "<p>[foo]</p>\n"
unfolding html
link_references_21 = refl

link_references_22 : html (codes "*[foo*]: /url\n\n*[foo*]\n") ≡ codes "<p><em>[foo</em>]: /url</p>\n<p><em>[foo</em>]</p>\n"
unfolding html
link_references_22 = refl

link_references_23 : html (codes "[foo][bar]\n\n[foo]: /url1\n[bar]: /url2\n") ≡ codes "<p><a href=\"/url2\">foo</a></p>\n"
unfolding html
link_references_23 = refl

link_references_24 : html (codes "[foo](not a link)\n\n[foo]: /url1\n") ≡ codes "<p><a href=\"/url1\">foo</a>(not a link)</p>\n"
unfolding html
link_references_24 = refl

link_references_25 : html (codes "[foo][bar][baz]\n\n[baz]: /url\n") ≡ codes "<p>[foo]<a href=\"/url\">bar</a></p>\n"
unfolding html
link_references_25 = refl

link_references_26 : html (codes "[foo][bar][baz]\n\n[baz]: /url1\n[bar]: /url2\n") ≡ codes "<p><a href=\"/url2\">foo</a><a href=\"/url1\">baz</a></p>\n"
unfolding html
link_references_26 = refl

link_references_27 : html (codes "[foo][bar][baz]\n\n[baz]: /url1\n[foo]: /url2\n") ≡ codes "<p>[foo]<a href=\"/url1\">bar</a></p>\n"
unfolding html
link_references_27 = refl

link_references_28 : html (codes "[a]\n\n[A]: /u 't'\n") ≡ codes "<p><a href=\"/u\" title=\"t\">a</a></p>\n"
unfolding html
link_references_28 = refl

link_references_29 : html (codes "[aaaaaaaaaaaaaaaaaaaaaaaaaaaaaaaaaaaaaaaaaaaaaaaaaaaaaaaaaaaaaaaaaaaaaaaaaaaaaaaaaaaaaaaaaaaaaaaaaaaaaaaaaaaaaaaaaaaaaaaaaaaaaaaaaaaaaaaaaaaaaaaaaaaaaaaaaaaaaaaaaaaaaaaaaaaaaaaaaaaaaaaaaaaaaaaaaaaaaaaaaaaaaaaaaaaaaaaaaaaaaaaaaaaaaaaaaaaaaaaaaaaaaaaaaaaaaaaaaaaaaaaaaaaaaaaaaaaaaaaaaaaaaaaaaaaaaaaaaaaaaaaaaaaaaaaaaaaaaaaaaaaaaaaaaaaaaaaaaaaaaaaaaaaaaaaaaaaaaaaaaaaaaaaaaaaaaaaaaaaaaaaaaaaaaaaaaaaaaaaaaaaaaaaaaaaaaaaaaaaaaaaaaaaaaaaaaaaaaaaaaaaaaaaaaaaaaaaaaaaaaaaaaaaaaaaaaaaaaaaaaaaaaaaaaaaaaaaaaaaaaaaaaaaaaaaaaaaaaaaaaaaaaaaaaaaaaaaaaaaaaaaaaaaaaaaaaaaaaaaaaaaaaaaaaaaaaaaaaaaaaaaaaaaaaaaaaaaaaaaaaaaaaaaaaaaaaaaaaaaaaaaaaaaaaaaaaaaaaaaaaaaaaaaaaaaaaaaaaaaaaaaaaaaaaaaaaaaaaaaaaaaaaaaaaaaaaaaaaaaaaaaaaaaaaaaaaaaaaaaaaaaaaaaaaaaaaaaaaaaaaaaaaaaaaaaaaaaaaaaaaaaaaaaaaaaaaaaaaaaaaaaaaaaaaaaaaaaaaaaaaaaaaaaaaaaaaaaaaaaaaaaaaaaaaaaaaaaaaaaaaaaaaaaaaaaaaaaaaaaaaaaaaaaaaaaaaaaaaaaaaaaaaaaaaaaaaaaaaaaaaaaaaaaaaaaaaaaaaaaaaaaaaaaaaaaaaaaaaaaaaaaaaaaaaaaaaaaaaaaaaaaaaaaaaaaaaaaaaaaaaaaaaaaaaaaaaaaaaaa]: /u\n\n[aaaaaaaaaaaaaaaaaaaaaaaaaaaaaaaaaaaaaaaaaaaaaaaaaaaaaaaaaaaaaaaaaaaaaaaaaaaaaaaaaaaaaaaaaaaaaaaaaaaaaaaaaaaaaaaaaaaaaaaaaaaaaaaaaaaaaaaaaaaaaaaaaaaaaaaaaaaaaaaaaaaaaaaaaaaaaaaaaaaaaaaaaaaaaaaaaaaaaaaaaaaaaaaaaaaaaaaaaaaaaaaaaaaaaaaaaaaaaaaaaaaaaaaaaaaaaaaaaaaaaaaaaaaaaaaaaaaaaaaaaaaaaaaaaaaaaaaaaaaaaaaaaaaaaaaaaaaaaaaaaaaaaaaaaaaaaaaaaaaaaaaaaaaaaaaaaaaaaaaaaaaaaaaaaaaaaaaaaaaaaaaaaaaaaaaaaaaaaaaaaaaaaaaaaaaaaaaaaaaaaaaaaaaaaaaaaaaaaaaaaaaaaaaaaaaaaaaaaaaaaaaaaaaaaaaaaaaaaaaaaaaaaaaaaaaaaaaaaaaaaaaaaaaaaaaaaaaaaaaaaaaaaaaaaaaaaaaaaaaaaaaaaaaaaaaaaaaaaaaaaaaaaaaaaaaaaaaaaaaaaaaaaaaaaaaaaaaaaaaaaaaaaaaaaaaaaaaaaaaaaaaaaaaaaaaaaaaaaaaaaaaaaaaaaaaaaaaaaaaaaaaaaaaaaaaaaaaaaaaaaaaaaaaaaaaaaaaaaaaaaaaaaaaaaaaaaaaaaaaaaaaaaaaaaaaaaaaaaaaaaaaaaaaaaaaaaaaaaaaaaaaaaaaaaaaaaaaaaaaaaaaaaaaaaaaaaaaaaaaaaaaaaaaaaaaaaaaaaaaaaaaaaaaaaaaaaaaaaaaaaaaaaaaaaaaaaaaaaaaaaaaaaaaaaaaaaaaaaaaaaaaaaaaaaaaaaaaaaaaaaaaaaaaaaaaaaaaaaaaaaaaaaaaaaaaaaaaaaaaaaaaaaaaaaaaaaaaaaaaaaaaaaaaaaaaaaaaaaaaaaaaaaaaaaaaaaaaaaaa]") ≡ codes "<p><a href=\"/u\">aaaaaaaaaaaaaaaaaaaaaaaaaaaaaaaaaaaaaaaaaaaaaaaaaaaaaaaaaaaaaaaaaaaaaaaaaaaaaaaaaaaaaaaaaaaaaaaaaaaaaaaaaaaaaaaaaaaaaaaaaaaaaaaaaaaaaaaaaaaaaaaaaaaaaaaaaaaaaaaaaaaaaaaaaaaaaaaaaaaaaaaaaaaaaaaaaaaaaaaaaaaaaaaaaaaaaaaaaaaaaaaaaaaaaaaaaaaaaaaaaaaaaaaaaaaaaaaaaaaaaaaaaaaaaaaaaaaaaaaaaaaaaaaaaaaaaaaaaaaaaaaaaaaaaaaaaaaaaaaaaaaaaaaaaaaaaaaaaaaaaaaaaaaaaaaaaaaaaaaaaaaaaaaaaaaaaaaaaaaaaaaaaaaaaaaaaaaaaaaaaaaaaaaaaaaaaaaaaaaaaaaaaaaaaaaaaaaaaaaaaaaaaaaaaaaaaaaaaaaaaaaaaaaaaaaaaaaaaaaaaaaaaaaaaaaaaaaaaaaaaaaaaaaaaaaaaaaaaaaaaaaaaaaaaaaaaaaaaaaaaaaaaaaaaaaaaaaaaaaaaaaaaaaaaaaaaaaaaaaaaaaaaaaaaaaaaaaaaaaaaaaaaaaaaaaaaaaaaaaaaaaaaaaaaaaaaaaaaaaaaaaaaaaaaaaaaaaaaaaaaaaaaaaaaaaaaaaaaaaaaaaaaaaaaaaaaaaaaaaaaaaaaaaaaaaaaaaaaaaaaaaaaaaaaaaaaaaaaaaaaaaaaaaaaaaaaaaaaaaaaaaaaaaaaaaaaaaaaaaaaaaaaaaaaaaaaaaaaaaaaaaaaaaaaaaaaaaaaaaaaaaaaaaaaaaaaaaaaaaaaaaaaaaaaaaaaaaaaaaaaaaaaaaaaaaaaaaaaaaaaaaaaaaaaaaaaaaaaaaaaaaaaaaaaaaaaaaaaaaaaaaaaaaaaaaaaaaaaaaaaaaaaaaaaaaaaaaaaaaaaaaaaaaaaaaaaaaaaaaaaaaaaaaaaaaaaaaaaaa</a></p>\n"
unfolding html
link_references_29 = refl

link_references_30 : html (codes "[aaaaaaaaaaaaaaaaaaaaaaaaaaaaaaaaaaaaaaaaaaaaaaaaaaaaaaaaaaaaaaaaaaaaaaaaaaaaaaaaaaaaaaaaaaaaaaaaaaaaaaaaaaaaaaaaaaaaaaaaaaaaaaaaaaaaaaaaaaaaaaaaaaaaaaaaaaaaaaaaaaaaaaaaaaaaaaaaaaaaaaaaaaaaaaaaaaaaaaaaaaaaaaaaaaaaaaaaaaaaaaaaaaaaaaaaaaaaaaaaaaaaaaaaaaaaaaaaaaaaaaaaaaaaaaaaaaaaaaaaaaaaaaaaaaaaaaaaaaaaaaaaaaaaaaaaaaaaaaaaaaaaaaaaaaaaaaaaaaaaaaaaaaaaaaaaaaaaaaaaaaaaaaaaaaaaaaaaaaaaaaaaaaaaaaaaaaaaaaaaaaaaaaaaaaaaaaaaaaaaaaaaaaaaaaaaaaaaaaaaaaaaaaaaaaaaaaaaaaaaaaaaaaaaaaaaaaaaaaaaaaaaaaaaaaaaaaaaaaaaaaaaaaaaaaaaaaaaaaaaaaaaaaaaaaaaaaaaaaaaaaaaaaaaaaaaaaaaaaaaaaaaaaaaaaaaaaaaaaaaaaaaaaaaaaaaaaaaaaaaaaaaaaaaaaaaaaaaaaaaaaaaaaaaaaaaaaaaaaaaaaaaaaaaaaaaaaaaaaaaaaaaaaaaaaaaaaaaaaaaaaaaaaaaaaaaaaaaaaaaaaaaaaaaaaaaaaaaaaaaaaaaaaaaaaaaaaaaaaaaaaaaaaaaaaaaaaaaaaaaaaaaaaaaaaaaaaaaaaaaaaaaaaaaaaaaaaaaaaaaaaaaaaaaaaaaaaaaaaaaaaaaaaaaaaaaaaaaaaaaaaaaaaaaaaaaaaaaaaaaaaaaaaaaaaaaaaaaaaaaaaaaaaaaaaaaaaaaaaaaaaaaaaaaaaaaaaaaaaaaaaaaaaaaaaaaaaaaaaaaaaaaaaaaaaaaaaaaaaaaaaaaaaaaaaaaaaaaaaaaaaaaaaaaaaaaaaaaaaaa]: /u\n\n[aaaaaaaaaaaaaaaaaaaaaaaaaaaaaaaaaaaaaaaaaaaaaaaaaaaaaaaaaaaaaaaaaaaaaaaaaaaaaaaaaaaaaaaaaaaaaaaaaaaaaaaaaaaaaaaaaaaaaaaaaaaaaaaaaaaaaaaaaaaaaaaaaaaaaaaaaaaaaaaaaaaaaaaaaaaaaaaaaaaaaaaaaaaaaaaaaaaaaaaaaaaaaaaaaaaaaaaaaaaaaaaaaaaaaaaaaaaaaaaaaaaaaaaaaaaaaaaaaaaaaaaaaaaaaaaaaaaaaaaaaaaaaaaaaaaaaaaaaaaaaaaaaaaaaaaaaaaaaaaaaaaaaaaaaaaaaaaaaaaaaaaaaaaaaaaaaaaaaaaaaaaaaaaaaaaaaaaaaaaaaaaaaaaaaaaaaaaaaaaaaaaaaaaaaaaaaaaaaaaaaaaaaaaaaaaaaaaaaaaaaaaaaaaaaaaaaaaaaaaaaaaaaaaaaaaaaaaaaaaaaaaaaaaaaaaaaaaaaaaaaaaaaaaaaaaaaaaaaaaaaaaaaaaaaaaaaaaaaaaaaaaaaaaaaaaaaaaaaaaaaaaaaaaaaaaaaaaaaaaaaaaaaaaaaaaaaaaaaaaaaaaaaaaaaaaaaaaaaaaaaaaaaaaaaaaaaaaaaaaaaaaaaaaaaaaaaaaaaaaaaaaaaaaaaaaaaaaaaaaaaaaaaaaaaaaaaaaaaaaaaaaaaaaaaaaaaaaaaaaaaaaaaaaaaaaaaaaaaaaaaaaaaaaaaaaaaaaaaaaaaaaaaaaaaaaaaaaaaaaaaaaaaaaaaaaaaaaaaaaaaaaaaaaaaaaaaaaaaaaaaaaaaaaaaaaaaaaaaaaaaaaaaaaaaaaaaaaaaaaaaaaaaaaaaaaaaaaaaaaaaaaaaaaaaaaaaaaaaaaaaaaaaaaaaaaaaaaaaaaaaaaaaaaaaaaaaaaaaaaaaaaaaaaaaaaaaaaaaaaaaaaaaaaaaaaaaaaaaaaaaaaaaaaaaaaaaaaaaaaa]") ≡ codes "<p>[aaaaaaaaaaaaaaaaaaaaaaaaaaaaaaaaaaaaaaaaaaaaaaaaaaaaaaaaaaaaaaaaaaaaaaaaaaaaaaaaaaaaaaaaaaaaaaaaaaaaaaaaaaaaaaaaaaaaaaaaaaaaaaaaaaaaaaaaaaaaaaaaaaaaaaaaaaaaaaaaaaaaaaaaaaaaaaaaaaaaaaaaaaaaaaaaaaaaaaaaaaaaaaaaaaaaaaaaaaaaaaaaaaaaaaaaaaaaaaaaaaaaaaaaaaaaaaaaaaaaaaaaaaaaaaaaaaaaaaaaaaaaaaaaaaaaaaaaaaaaaaaaaaaaaaaaaaaaaaaaaaaaaaaaaaaaaaaaaaaaaaaaaaaaaaaaaaaaaaaaaaaaaaaaaaaaaaaaaaaaaaaaaaaaaaaaaaaaaaaaaaaaaaaaaaaaaaaaaaaaaaaaaaaaaaaaaaaaaaaaaaaaaaaaaaaaaaaaaaaaaaaaaaaaaaaaaaaaaaaaaaaaaaaaaaaaaaaaaaaaaaaaaaaaaaaaaaaaaaaaaaaaaaaaaaaaaaaaaaaaaaaaaaaaaaaaaaaaaaaaaaaaaaaaaaaaaaaaaaaaaaaaaaaaaaaaaaaaaaaaaaaaaaaaaaaaaaaaaaaaaaaaaaaaaaaaaaaaaaaaaaaaaaaaaaaaaaaaaaaaaaaaaaaaaaaaaaaaaaaaaaaaaaaaaaaaaaaaaaaaaaaaaaaaaaaaaaaaaaaaaaaaaaaaaaaaaaaaaaaaaaaaaaaaaaaaaaaaaaaaaaaaaaaaaaaaaaaaaaaaaaaaaaaaaaaaaaaaaaaaaaaaaaaaaaaaaaaaaaaaaaaaaaaaaaaaaaaaaaaaaaaaaaaaaaaaaaaaaaaaaaaaaaaaaaaaaaaaaaaaaaaaaaaaaaaaaaaaaaaaaaaaaaaaaaaaaaaaaaaaaaaaaaaaaaaaaaaaaaaaaaaaaaaaaaaaaaaaaaaaaaaaaaaaaaaaaaaaaaaaaaaaaaaaaaaaaaaaaaaa]: /u</p>\n<p>[aaaaaaaaaaaaaaaaaaaaaaaaaaaaaaaaaaaaaaaaaaaaaaaaaaaaaaaaaaaaaaaaaaaaaaaaaaaaaaaaaaaaaaaaaaaaaaaaaaaaaaaaaaaaaaaaaaaaaaaaaaaaaaaaaaaaaaaaaaaaaaaaaaaaaaaaaaaaaaaaaaaaaaaaaaaaaaaaaaaaaaaaaaaaaaaaaaaaaaaaaaaaaaaaaaaaaaaaaaaaaaaaaaaaaaaaaaaaaaaaaaaaaaaaaaaaaaaaaaaaaaaaaaaaaaaaaaaaaaaaaaaaaaaaaaaaaaaaaaaaaaaaaaaaaaaaaaaaaaaaaaaaaaaaaaaaaaaaaaaaaaaaaaaaaaaaaaaaaaaaaaaaaaaaaaaaaaaaaaaaaaaaaaaaaaaaaaaaaaaaaaaaaaaaaaaaaaaaaaaaaaaaaaaaaaaaaaaaaaaaaaaaaaaaaaaaaaaaaaaaaaaaaaaaaaaaaaaaaaaaaaaaaaaaaaaaaaaaaaaaaaaaaaaaaaaaaaaaaaaaaaaaaaaaaaaaaaaaaaaaaaaaaaaaaaaaaaaaaaaaaaaaaaaaaaaaaaaaaaaaaaaaaaaaaaaaaaaaaaaaaaaaaaaaaaaaaaaaaaaaaaaaaaaaaaaaaaaaaaaaaaaaaaaaaaaaaaaaaaaaaaaaaaaaaaaaaaaaaaaaaaaaaaaaaaaaaaaaaaaaaaaaaaaaaaaaaaaaaaaaaaaaaaaaaaaaaaaaaaaaaaaaaaaaaaaaaaaaaaaaaaaaaaaaaaaaaaaaaaaaaaaaaaaaaaaaaaaaaaaaaaaaaaaaaaaaaaaaaaaaaaaaaaaaaaaaaaaaaaaaaaaaaaaaaaaaaaaaaaaaaaaaaaaaaaaaaaaaaaaaaaaaaaaaaaaaaaaaaaaaaaaaaaaaaaaaaaaaaaaaaaaaaaaaaaaaaaaaaaaaaaaaaaaaaaaaaaaaaaaaaaaaaaaaaaaaaaaaaaaaaaaaaaaaaaaaaaaaaaaa]</p>\n"
unfolding html
link_references_30 = refl

link_references_31 : html ((91 ∷ 225 ∷ 186 ∷ 158 ∷ 93 ∷ 10 ∷ 10 ∷ 91 ∷ 83 ∷ 83 ∷ 93 ∷ 58 ∷ 32 ∷ 47 ∷ 117 ∷ 114 ∷ 108 ∷ 10 ∷ 10 ∷ 91 ∷ 208 ∷ 162 ∷ 208 ∷ 158 ∷ 208 ∷ 155 ∷ 208 ∷ 159 ∷ 208 ∷ 158 ∷ 208 ∷ 153 ∷ 93 ∷ 91 ∷ 208 ∷ 162 ∷ 208 ∷ 190 ∷ 208 ∷ 187 ∷ 208 ∷ 191 ∷ 208 ∷ 190 ∷ 208 ∷ 185 ∷ 93 ∷ 10 ∷ 10 ∷ 91 ∷ 209 ∷ 130 ∷ 208 ∷ 190 ∷ 208 ∷ 187 ∷ 208 ∷ 191 ∷ 208 ∷ 190 ∷ 208 ∷ 185 ∷ 93 ∷ 58 ∷ 32 ∷ 47 ∷ 195 ∷ 182 ∷ 10 ∷ [])) ≡ (60 ∷ 112 ∷ 62 ∷ 60 ∷ 97 ∷ 32 ∷ 104 ∷ 114 ∷ 101 ∷ 102 ∷ 61 ∷ 34 ∷ 47 ∷ 117 ∷ 114 ∷ 108 ∷ 34 ∷ 62 ∷ 225 ∷ 186 ∷ 158 ∷ 60 ∷ 47 ∷ 97 ∷ 62 ∷ 60 ∷ 47 ∷ 112 ∷ 62 ∷ 10 ∷ 60 ∷ 112 ∷ 62 ∷ 60 ∷ 97 ∷ 32 ∷ 104 ∷ 114 ∷ 101 ∷ 102 ∷ 61 ∷ 34 ∷ 47 ∷ 37 ∷ 67 ∷ 51 ∷ 37 ∷ 66 ∷ 54 ∷ 34 ∷ 62 ∷ 208 ∷ 162 ∷ 208 ∷ 158 ∷ 208 ∷ 155 ∷ 208 ∷ 159 ∷ 208 ∷ 158 ∷ 208 ∷ 153 ∷ 60 ∷ 47 ∷ 97 ∷ 62 ∷ 60 ∷ 47 ∷ 112 ∷ 62 ∷ 10 ∷ [])
unfolding html
link_references_31 = refl
