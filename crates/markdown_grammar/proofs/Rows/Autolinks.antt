-- Autolinks: CommonMark 0.31.2, section 6.5. Each row is a text and its HTML, computed.
use Rattle.std.proofs.Common.{◌≡◌, refl, codes}
use Rattle.markdown_grammar.specs.Html.{html}

autolinks_1 : html (codes "<http://foo.bar.baz>\n") ≡ codes "<p><a href=\"http://foo.bar.baz\">http://foo.bar.baz</a></p>\n"
unfolding html
autolinks_1 = refl

autolinks_2 : html (codes "<MAILTO:FOO@BAR.BAZ>\n") ≡ codes "<p><a href=\"MAILTO:FOO@BAR.BAZ\">MAILTO:FOO@BAR.BAZ</a></p>\n"
unfolding html
autolinks_2 = refl

autolinks_3 : html (codes "<a+b+c:d>\n") ≡ codes "<p><a href=\"a+b+c:d\">a+b+c:d</a></p>\n"
unfolding html
autolinks_3 = refl

autolinks_4 : html (codes "<made-up-scheme://foo,bar>\n") ≡ codes "<p><a href=\"made-up-scheme://foo,bar\">made-up-scheme://foo,bar</a></p>\n"
unfolding html
autolinks_4 = refl

autolinks_5 : html (codes "<localhost:5001/foo>\n") ≡ codes "<p><a href=\"localhost:5001/foo\">localhost:5001/foo</a></p>\n"
unfolding html
autolinks_5 = refl

autolinks_6 : html (codes "<https://foo.bar/baz bim>\n") ≡ codes "<p>&lt;https://foo.bar/baz bim&gt;</p>\n"
unfolding html
autolinks_6 = refl

autolinks_7 : html (codes "<https://example.com/\\[\\>\n") ≡ codes "<p><a href=\"https://example.com/%5C%5B%5C\">https://example.com/\\[\\</a></p>\n"
unfolding html
autolinks_7 = refl

autolinks_8 : html (codes "<foo@bar.example.com>\n") ≡ codes "<p><a href=\"mailto:foo@bar.example.com\">foo@bar.example.com</a></p>\n"
unfolding html
autolinks_8 = refl

autolinks_9 : html (codes "<foo\\+@bar.example.com>\n") ≡ codes "<p>&lt;foo+@bar.example.com&gt;</p>\n"
unfolding html
autolinks_9 = refl

autolinks_10 : html (codes "<>\n") ≡ codes "<p>&lt;&gt;</p>\n"
unfolding html
autolinks_10 = refl

autolinks_11 : html (codes "< https://foo.bar >\n") ≡ codes "<p>&lt; https://foo.bar &gt;</p>\n"
unfolding html
autolinks_11 = refl

autolinks_12 : html (codes "<m:abc>\n") ≡ codes "<p>&lt;m:abc&gt;</p>\n"
unfolding html
autolinks_12 = refl

autolinks_13 : html (codes "<foo.bar.baz>\n") ≡ codes "<p>&lt;foo.bar.baz&gt;</p>\n"
unfolding html
autolinks_13 = refl

autolinks_14 : html (codes "https://example.com\n") ≡ codes "<p>https://example.com</p>\n"
unfolding html
autolinks_14 = refl

autolinks_15 : html (codes "<http://a.b/`c'd[e]>\n") ≡ codes "<p><a href=\"http://a.b/%60c'd%5Be%5D\">http://a.b/`c'd[e]</a></p>\n"
unfolding html
autolinks_15 = refl
