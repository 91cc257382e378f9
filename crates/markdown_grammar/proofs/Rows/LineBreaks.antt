-- Line breaks and text: CommonMark 0.31.2, sections 6.7 to 6.9. Each row is a text and its HTML, computed.
use Rattle.std.proofs.Common.{◌≡◌, refl, codes}
use Rattle.markdown_grammar.specs.Html.{html}

hard_breaks_1 : html (codes "foo  \nbaz\n") ≡ codes "<p>foo<br />\nbaz</p>\n"
unfolding html
hard_breaks_1 = refl

hard_breaks_2 : html (codes "foo\\\nbaz\n") ≡ codes "<p>foo<br />\nbaz</p>\n"
unfolding html
hard_breaks_2 = refl

hard_breaks_3 : html (codes "foo       \nbaz\n") ≡ codes "<p>foo<br />\nbaz</p>\n"
unfolding html
hard_breaks_3 = refl

hard_breaks_4 : html (codes "foo  \n     bar\n") ≡ codes "<p>foo<br />\nbar</p>\n"
unfolding html
hard_breaks_4 = refl

hard_breaks_5 : html (codes "*foo  \nbar*\n") ≡ codes "<p><em>foo<br />\nbar</em></p>\n"
unfolding html
hard_breaks_5 = refl

hard_breaks_6 : html (codes "`code  \nspan`\n") ≡ codes "<p><code>code   span</code></p>\n"
unfolding html
hard_breaks_6 = refl

hard_breaks_7 : html (codes "<a href=\"foo  \nbar\">\n") ≡ codes "<p><a href=\"foo  \nbar\"></p>\n"
unfolding html
hard_breaks_7 = refl

hard_breaks_8 : html (codes "foo\\\n") ≡ codes "<p>foo\\</p>\n"
unfolding html
hard_breaks_8 = refl

hard_breaks_9 : html (codes "foo  \n") ≡ codes "<p>foo</p>\n"
unfolding html
hard_breaks_9 = refl

hard_breaks_10 : html (codes "### foo\\\n") ≡ codes "<h3>foo\\</h3>\n"
unfolding html
hard_breaks_10 = refl

hard_breaks_11 : html (codes "### foo  \n") ≡ codes "<h3>foo</h3>\n"
unfolding html
hard_breaks_11 = refl

soft_breaks_1 : html (codes "foo\nbaz\n") ≡ codes "<p>foo\nbaz</p>\n"
unfolding html
soft_breaks_1 = refl

soft_breaks_2 : html (codes "foo \n baz\n") ≡ codes "<p>foo\nbaz</p>\n"
unfolding html
soft_breaks_2 = refl

text_1 : html (codes "hello $.;'there\n") ≡ codes "<p>hello $.;'there</p>\n"
unfolding html
text_1 = refl

text_2 : html (codes "Multiple     spaces\n") ≡ codes "<p>Multiple     spaces</p>\n"
unfolding html
text_2 = refl
