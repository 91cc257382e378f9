-- HTML blocks: CommonMark 0.31.2, section 4.6. Each row is a text and its HTML, computed.
use Rattle.std.proofs.Common.{◌≡◌, refl, codes}
use Rattle.markdown_grammar.specs.Html.{html}

html_blocks_1 : html (codes "<table><tr><td>\n<pre>\n**Hello**,\n\n_world_.\n</pre>\n</td></tr></table>\n") ≡ codes "<table><tr><td>\n<pre>\n**Hello**,\n<p><em>world</em>.\n</pre></p>\n</td></tr></table>\n"
unfolding html
html_blocks_1 = refl

html_blocks_2 : html (codes " <div>\n  *hello*\n         <foo><a>\n") ≡ codes " <div>\n  *hello*\n         <foo><a>\n"
unfolding html
html_blocks_2 = refl

html_blocks_3 : html (codes "</div>\n*foo*\n") ≡ codes "</div>\n*foo*\n"
unfolding html
html_blocks_3 = refl

html_blocks_4 : html (codes "<DIV CLASS=\"foo\">\n\n*Markdown*\n\n</DIV>\n") ≡ codes "<DIV CLASS=\"foo\">\n<p><em>Markdown</em></p>\n</DIV>\n"
unfolding html
html_blocks_4 = refl

html_blocks_5 : html (codes "<div\n  class=\"bar\">\n</div>\n") ≡ codes "<div\n  class=\"bar\">\n</div>\n"
unfolding html
html_blocks_5 = refl

html_blocks_6 : html (codes "<div id=\"foo\n*hi*\n") ≡ codes "<div id=\"foo\n*hi*\n"
unfolding html
html_blocks_6 = refl

html_blocks_7 : html (codes "<div *???-&&&-<---\n*foo*\n") ≡ codes "<div *???-&&&-<---\n*foo*\n"
unfolding html
html_blocks_7 = refl

html_blocks_8 : html (codes "<a href=\"foo\">\n*bar*\n</a>\n") ≡ codes "<a href=\"foo\">\n*bar*\n</a>\n"
unfolding html
html_blocks_8 = refl

html_blocks_9 : html (codes "<Warning>\n*bar*\n</Warning>\n") ≡ codes "<Warning>\n*bar*\n</Warning>\n"
unfolding html
html_blocks_9 = refl

html_blocks_10 : html (codes "<i class=\"foo\">\n*bar*\n</i>\n") ≡ codes "<i class=\"foo\">\n*bar*\n</i>\n"
unfolding html
html_blocks_10 = refl

html_blocks_11 : html (codes "<del>*foo*</del>\n") ≡ codes "<p><del><em>foo</em></del></p>\n"
unfolding html
html_blocks_11 = refl

html_blocks_12 : html (codes "<pre language=\"haskell\"><code>\nimport\n\nmain\n</code></pre>\nokay\n") ≡ codes "<pre language=\"haskell\"><code>\nimport\n\nmain\n</code></pre>\n<p>okay</p>\n"
unfolding html
html_blocks_12 = refl

html_blocks_13 : html (codes "<script type=\"text/javascript\">\n// x\n\ny\n</script>\nokay\n") ≡ codes "<script type=\"text/javascript\">\n// x\n\ny\n</script>\n<p>okay</p>\n"
unfolding html
html_blocks_13 = refl

html_blocks_14 : html (codes "<textarea>\n\n*foo*\n\n_bar_\n\n</textarea>\n") ≡ codes "<textarea>\n\n*foo*\n\n_bar_\n\n</textarea>\n"
unfolding html
html_blocks_14 = refl

html_blocks_15 : html (codes "<style\n  type=\"text/css\">\n\nfoo\n") ≡ codes "<style\n  type=\"text/css\">\n\nfoo\n"
unfolding html
html_blocks_15 = refl

html_blocks_16 : html (codes "> <div>\n> foo\n\nbar\n") ≡ codes "<blockquote>\n<div>\nfoo\n</blockquote>\n<p>bar</p>\n"
unfolding html
html_blocks_16 = refl

html_blocks_17 : html (codes "- <div>\n- foo\n") ≡ codes "<ul>\n<li>\n<div>\n</li>\n<li>foo</li>\n</ul>\n"
unfolding html
html_blocks_17 = refl

html_blocks_18 : html (codes "<style>p{color:red;}</style>\n*foo*\n") ≡ codes "<style>p{color:red;}</style>\n<p><em>foo</em></p>\n"
unfolding html
html_blocks_18 = refl

html_blocks_19 : html (codes "<!-- foo -->*bar*\n*baz*\n") ≡ codes "<!-- foo -->*bar*\n<p><em>baz</em></p>\n"
unfolding html
html_blocks_19 = refl

html_blocks_20 : html (codes "<!-- Foo\n\nbar\n   baz -->\nokay\n") ≡ codes "<!-- Foo\n\nbar\n   baz -->\n<p>okay</p>\n"
unfolding html
html_blocks_20 = refl

html_blocks_21 : html (codes "<?php\n\n  echo '>';\n\n?>\nokay\n") ≡ codes "<?php\n\n  echo '>';\n\n?>\n<p>okay</p>\n"
unfolding html
html_blocks_21 = refl

html_blocks_22 : html (codes "<!DOCTYPE html>\n") ≡ codes "<!DOCTYPE html>\n"
unfolding html
html_blocks_22 = refl

html_blocks_23 : html (codes "<![CDATA[\nfunction\n\n]]>\nokay\n") ≡ codes "<![CDATA[\nfunction\n\n]]>\n<p>okay</p>\n"
unfolding html
html_blocks_23 = refl

html_blocks_24 : html (codes "  <!-- foo -->\n\n    <!-- foo -->\n") ≡ codes "  <!-- foo -->\n<pre><code>&lt;!-- foo --&gt;\n</code></pre>\n"
unfolding html
html_blocks_24 = refl

html_blocks_25 : html (codes "Foo\n<div>\nbar\n</div>\n") ≡ codes "<p>Foo</p>\n<div>\nbar\n</div>\n"
unfolding html
html_blocks_25 = refl

html_blocks_26 : html (codes "Foo\n<a href=\"bar\">\nbaz\n") ≡ codes "<p>Foo\n<a href=\"bar\">\nbaz</p>\n"
unfolding html
html_blocks_26 = refl

html_blocks_27 : html (codes "<div>\n\n*Emphasized* text.\n\n</div>\n") ≡ codes "<div>\n<p><em>Emphasized</em> text.</p>\n</div>\n"
unfolding html
html_blocks_27 = refl

html_blocks_28 : html (codes "> a\n<b>\n") ≡ codes "<blockquote>\n<p>a\n<b></p>\n</blockquote>\n"
unfolding html
html_blocks_28 = refl

html_blocks_29 : html (codes "</pre>\n") ≡ codes "<p></pre></p>\n"
unfolding html
html_blocks_29 = refl

html_blocks_30 : html (codes "<search>\n*a*\n</search>\n") ≡ codes "<search>\n*a*\n</search>\n"
unfolding html
html_blocks_30 = refl

html_blocks_31 : html (codes "<pre/>\n") ≡ codes "<p><pre/></p>\n"
unfolding html
html_blocks_31 = refl

html_blocks_32 : html (codes "<pre-a>\n*b*\n") ≡ codes "<pre-a>\n*b*\n"
unfolding html
html_blocks_32 = refl

html_blocks_33 : html (codes "<!-- a -> *b*\n*c*\n-->\n*d*\n") ≡ codes "<!-- a -> *b*\n*c*\n-->\n<p><em>d</em></p>\n"
unfolding html
html_blocks_33 = refl
