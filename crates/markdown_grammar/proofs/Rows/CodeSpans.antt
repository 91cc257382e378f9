-- Code spans: CommonMark 0.31.2, section 6.1. Each row is a text and its HTML, computed.
use Rattle.std.proofs.Common.{◌≡◌, refl, codes}
use Rattle.markdown_grammar.specs.Html.{html}

code_spans_1 : html (codes "`hi`lo`\n") ≡ codes "<p><code>hi</code>lo`</p>\n"
unfolding html
code_spans_1 = refl

code_spans_2 : html (codes "`foo`\n") ≡ codes "<p><code>foo</code></p>\n"
unfolding html
code_spans_2 = refl

code_spans_3 : html (codes "`` foo ` bar ``\n") ≡ codes "<p><code>foo ` bar</code></p>\n"
unfolding html
code_spans_3 = refl

code_spans_4 : html (codes "` `` `\n") ≡ codes "<p><code>``</code></p>\n"
unfolding html
code_spans_4 = refl

code_spans_5 : html (codes "`  ``  `\n") ≡ codes "<p><code> `` </code></p>\n"
unfolding html
code_spans_5 = refl

code_spans_6 : html (codes "` a`\n") ≡ codes "<p><code> a</code></p>\n"
unfolding html
code_spans_6 = refl

code_spans_7 : html (codes "` `\n`  `\n") ≡ codes "<p><code> </code>\n<code>  </code></p>\n"
unfolding html
code_spans_7 = refl

code_spans_8 : html (codes "``\nfoo\nbar  \nbaz\n``\n") ≡ codes "<p><code>foo bar   baz</code></p>\n"
unfolding html
code_spans_8 = refl

code_spans_9 : html (codes "`foo   bar \nbaz`\n") ≡ codes "<p><code>foo   bar  baz</code></p>\n"
unfolding html
code_spans_9 = refl

code_spans_10 : html (codes "`foo\\`bar`\n") ≡ codes "<p><code>foo\\</code>bar`</p>\n"
unfolding html
code_spans_10 = refl

code_spans_11 : html (codes "``foo`bar``\n") ≡ codes "<p><code>foo`bar</code></p>\n"
unfolding html
code_spans_11 = refl

code_spans_12 : html (codes "*foo`*`\n") ≡ codes "<p>*foo<code>*</code></p>\n"
unfolding html
code_spans_12 = refl

code_spans_13 : html (codes "[not a `link](/foo`)\n") ≡ codes "<p>[not a <code>link](/foo</code>)</p>\n"
unfolding html
code_spans_13 = refl

code_spans_14 : html (codes "`<a href=\"`\">`\n") ≡ codes "<p><code>&lt;a href=&quot;</code>&quot;&gt;`</p>\n"
unfolding html
code_spans_14 = refl

code_spans_15 : html (codes "<a href=\"`\">`\n") ≡ codes "<p><a href=\"`\">`</p>\n"
unfolding html
code_spans_15 = refl

code_spans_16 : html (codes "`<https://foo.bar.`baz>`\n") ≡ codes "<p><code>&lt;https://foo.bar.</code>baz&gt;`</p>\n"
unfolding html
code_spans_16 = refl

code_spans_17 : html (codes "```foo``\n") ≡ codes "<p>```foo``</p>\n"
unfolding html
code_spans_17 = refl

code_spans_18 : html (codes "`foo\n") ≡ codes "<p>`foo</p>\n"
unfolding html
code_spans_18 = refl

code_spans_19 : html (codes "`foo``bar``\n") ≡ codes "<p>`foo<code>bar</code></p>\n"
unfolding html
code_spans_19 = refl

code_spans_20 : html (codes "<https://foo.bar.`baz>`\n") ≡ codes "<p><a href=\"https://foo.bar.%60baz\">https://foo.bar.`baz</a>`</p>\n"
unfolding html
code_spans_20 = refl
