-- Link reference definitions: CommonMark 0.31.2, section 4.7. Each row is a text and its HTML, computed.
use Rattle.std.proofs.Common.{◌≡◌, refl, codes}
use Rattle.markdown_grammar.specs.Html.{html}

definitions_1 : html (codes "[foo]: /url \"title\"\n\n[foo]\n") ≡ codes "<p><a href=\"/url\" title=\"title\">foo</a></p>\n"
unfolding html
definitions_1 = refl

definitions_2 : html (codes "   [foo]: \n      /url  \n           'the title'  \n\n[foo]\n") ≡ codes "<p><a href=\"/url\" title=\"the title\">foo</a></p>\n"
unfolding html
definitions_2 = refl

definitions_3 : html (codes "[Foo*bar\\]]:my_(url) 'title (with parens)'\n\n[Foo*bar\\]]\n") ≡ codes "<p><a href=\"my_(url)\" title=\"title (with parens)\">Foo*bar]</a></p>\n"
unfolding html
definitions_3 = refl

definitions_4 : html (codes "[foo]: /url '\ntitle\nline1\nline2\n'\n\n[foo]\n") ≡ codes "<p><a href=\"/url\" title=\"\ntitle\nline1\nline2\n\">foo</a></p>\n"
unfolding html
definitions_4 = refl

definitions_5 : html (codes "[foo]: /url 'title\n\nwith blank line'\n\n[foo]\n") ≡ codes "<p>[foo]: /url 'title</p>\n<p>with blank line'</p>\n<p>[foo]</p>\n"
unfolding html
definitions_5 = refl

definitions_6 : html (codes "[foo]:\n/url\n\n[foo]\n") ≡ codes "<p><a href=\"/url\">foo</a></p>\n"
unfolding html
definitions_6 = refl

definitions_7 : html (codes "[foo]:\n\n[foo]\n") ≡ codes "<p>[foo]:</p>\n<p>[foo]</p>\n"
unfolding html
definitions_7 = refl

definitions_8 : html (codes "[foo]: <>\n\n[foo]\n") ≡ codes "<p><a href=\"\">foo</a></p>\n"
unfolding html
definitions_8 = refl

definitions_9 : html (codes "[foo]: <bar>(baz)\n\n[foo]\n") ≡ codes "<p>[foo]: <bar>(baz)</p>\n<p>[foo]</p>\n"
unfolding html
definitions_9 = refl

definitions_10 : html (codes "[foo]: /url\\bar\\*baz \"foo\\\"bar\\baz\"\n\n[foo]\n") ≡ codes "<p><a href=\"/url%5Cbar*baz\" title=\"foo&quot;bar\\baz\">foo</a></p>\n"
unfolding html
definitions_10 = refl

definitions_11 : html (codes "[foo]\n\n[foo]: first\n[foo]: second\n") ≡ codes "<p><a href=\"first\">foo</a></p>\n"
unfolding html
definitions_11 = refl

definitions_12 : html (codes "[FOO]: /url\n\n[Foo]\n") ≡ codes "<p><a href=\"/url\">Foo</a></p>\n"
unfolding html
definitions_12 = refl

definitions_13 : html (codes "[foo]: /url\n") ≡ codes ""
unfolding html
definitions_13 = refl

definitions_14 : html (codes "[\nfoo\n]: /url\nbar\n") ≡ codes "<p>bar</p>\n"
unfolding html
definitions_14 = refl

definitions_15 : html (codes "[foo]: /url \"title\" ok\n") ≡ codes "<p>[foo]: /url &quot;title&quot; ok</p>\n"
unfolding html
definitions_15 = refl

definitions_16 : html (codes "[foo]: /url\n\"title\" ok\n") ≡ codes "<p>&quot;title&quot; ok</p>\n"
unfolding html
definitions_16 = refl

definitions_17 : html (codes "    [foo]: /url \"title\"\n\n[foo]\n") ≡ codes "<pre><code>[foo]: /url &quot;title&quot;\n</code></pre>\n<p>[foo]</p>\n"
unfolding html
definitions_17 = refl

definitions_18 : html (codes "```\n[foo]: /url\n```\n\n[foo]\n") ≡ codes "<pre><code>[foo]: /url\n</code></pre>\n<p>[foo]</p>\n"
unfolding html
definitions_18 = refl

definitions_19 : html (codes "Foo\n[bar]: /baz\n\n[bar]\n") ≡ codes "<p>Foo\n[bar]: /baz</p>\n<p>[bar]</p>\n"
unfolding html
definitions_19 = refl

definitions_20 : html (codes "# [Foo]\n[foo]: /url\n> bar\n") ≡ codes "<h1><a href=\"/url\">Foo</a></h1>\n<blockquote>\n<p>bar</p>\n</blockquote>\n"
unfolding html
definitions_20 = refl

definitions_21 : html (codes "[foo]: /url\nbar\n===\n[foo]\n") ≡ codes "<h1>bar</h1>\n<p><a href=\"/url\">foo</a></p>\n"
unfolding html
definitions_21 = refl

definitions_22 : html (codes "[foo]: /url\n===\n[foo]\n") ≡ codes "<p>===\n<a href=\"/url\">foo</a></p>\n"
unfolding html
definitions_22 = refl

definitions_23 : html (codes "[foo]\n\n> [foo]: /url\n") ≡ codes "<p><a href=\"/url\">foo</a></p>\n<blockquote>\n</blockquote>\n"
unfolding html
definitions_23 = refl

definitions_24 : html (codes "[a]: /u\n---\n") ≡ codes "<hr />\n"
unfolding html
definitions_24 = refl
