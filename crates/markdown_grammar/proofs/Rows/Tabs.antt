-- Tabs: CommonMark 0.31.2, section 2.2. Each row is a text and its HTML, computed.
use Rattle.std.proofs.Common.{◌≡◌, refl, codes}
use Rattle.markdown_grammar.specs.Html.{html}

tabs_1 : html (codes "\tfoo\tbaz\t\tbim\n") ≡ codes "<pre><code>foo\tbaz\t\tbim\n</code></pre>\n"
unfolding html
tabs_1 = refl

tabs_2 : html (codes "  \tfoo\tbaz\n") ≡ codes "<pre><code>foo\tbaz\n</code></pre>\n"
unfolding html
tabs_2 = refl

tabs_3 : html (codes "  - foo\n\n\tbar\n") ≡ codes "<ul>\n<li>\n<p>foo</p>\n<p>bar</p>\n</li>\n</ul>\n"
unfolding html
tabs_3 = refl

tabs_4 : html (codes "- foo\n\n\t\tbar\n") ≡ codes "<ul>\n<li>\n<p>foo</p>\n<pre><code>  bar\n</code></pre>\n</li>\n</ul>\n"
unfolding html
tabs_4 = refl

tabs_5 : html (codes ">\t\tfoo\n") ≡ codes "<blockquote>\n<pre><code>  foo\n</code></pre>\n</blockquote>\n"
unfolding html
tabs_5 = refl

tabs_6 : html (codes "-\t\tfoo\n") ≡ codes "<ul>\n<li>\n<pre><code>  foo\n</code></pre>\n</li>\n</ul>\n"
unfolding html
tabs_6 = refl

tabs_7 : html (codes "    foo\n\tbar\n") ≡ codes "<pre><code>foo\nbar\n</code></pre>\n"
unfolding html
tabs_7 = refl

tabs_8 : html (codes " - foo\n   - bar\n\t - baz\n") ≡ codes "<ul>\n<li>foo\n<ul>\n<li>bar\n<ul>\n<li>baz</li>\n</ul>\n</li>\n</ul>\n</li>\n</ul>\n"
unfolding html
tabs_8 = refl

tabs_9 : html (codes "#\tFoo\n") ≡ codes "<h1>Foo</h1>\n"
unfolding html
tabs_9 = refl

tabs_10 : html (codes "*\t*\t*\t\n") ≡ codes "<hr />\n"
unfolding html
tabs_10 = refl
