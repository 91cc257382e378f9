-- Lists: CommonMark 0.31.2, section 5.3. Each row is a text and its HTML, computed.
use Rattle.std.proofs.Common.{◌≡◌, refl, codes}
use Rattle.markdown_grammar.specs.Html.{html}

lists_1 : html (codes "- foo\n- bar\n+ baz\n") ≡ codes "<ul>\n<li>foo</li>\n<li>bar</li>\n</ul>\n<ul>\n<li>baz</li>\n</ul>\n"
unfolding html
lists_1 = refl

lists_2 : html (codes "1. foo\n2. bar\n3) baz\n") ≡ codes "<ol>\n<li>foo</li>\n<li>bar</li>\n</ol>\n<ol start=\"3\">\n<li>baz</li>\n</ol>\n"
unfolding html
lists_2 = refl

lists_3 : html (codes "Foo\n- bar\n- baz\n") ≡ codes "<p>Foo</p>\n<ul>\n<li>bar</li>\n<li>baz</li>\n</ul>\n"
unfolding html
lists_3 = refl

lists_4 : html (codes "The number\n14.  The\n") ≡ codes "<p>The number\n14.  The</p>\n"
unfolding html
lists_4 = refl

lists_5 : html (codes "The number\n1.  The\n") ≡ codes "<p>The number</p>\n<ol>\n<li>The</li>\n</ol>\n"
unfolding html
lists_5 = refl

lists_6 : html (codes "- foo\n\n- bar\n\n\n- baz\n") ≡ codes "<ul>\n<li>\n<p>foo</p>\n</li>\n<li>\n<p>bar</p>\n</li>\n<li>\n<p>baz</p>\n</li>\n</ul>\n"
unfolding html
lists_6 = refl

lists_7 : html (codes "- foo\n  - bar\n    - baz\n\n\n      bim\n") ≡ codes "<ul>\n<li>foo\n<ul>\n<li>bar\n<ul>\n<li>\n<p>baz</p>\n<p>bim</p>\n</li>\n</ul>\n</li>\n</ul>\n</li>\n</ul>\n"
unfolding html
lists_7 = refl

lists_8 : html (codes "- foo\n- bar\n\n<!-- -->\n\n- baz\n- bim\n") ≡ codes "<ul>\n<li>foo</li>\n<li>bar</li>\n</ul>\n<!-- -->\n<ul>\n<li>baz</li>\n<li>bim</li>\n</ul>\n"
unfolding html
lists_8 = refl

lists_9 : html (codes "- a\n - b\n  - c\n   - d\n  - e\n - f\n- g\n") ≡ codes "<ul>\n<li>a</li>\n<li>b</li>\n<li>c</li>\n<li>d</li>\n<li>e</li>\n<li>f</li>\n<li>g</li>\n</ul>\n"
unfolding html
lists_9 = refl

lists_10 : html (codes "1. a\n\n  2. b\n\n   3. c\n") ≡ codes "<ol>\n<li>\n<p>a</p>\n</li>\n<li>\n<p>b</p>\n</li>\n<li>\n<p>c</p>\n</li>\n</ol>\n"
unfolding html
lists_10 = refl

lists_11 : html (codes "- a\n - b\n  - c\n   - d\n    - e\n") ≡ codes "<ul>\n<li>a</li>\n<li>b</li>\n<li>c</li>\n<li>d\n- e</li>\n</ul>\n"
unfolding html
lists_11 = refl

lists_12 : html (codes "1. a\n\n  2. b\n\n    3. c\n") ≡ codes "<ol>\n<li>\n<p>a</p>\n</li>\n<li>\n<p>b</p>\n</li>\n</ol>\n<pre><code>3. c\n</code></pre>\n"
unfolding html
lists_12 = refl

lists_13 : html (codes "- a\n- b\n\n- c\n") ≡ codes "<ul>\n<li>\n<p>a</p>\n</li>\n<li>\n<p>b</p>\n</li>\n<li>\n<p>c</p>\n</li>\n</ul>\n"
unfolding html
lists_13 = refl

lists_14 : html (codes "* a\n*\n\n* c\n") ≡ codes "<ul>\n<li>\n<p>a</p>\n</li>\n<li></li>\n<li>\n<p>c</p>\n</li>\n</ul>\n"
unfolding html
lists_14 = refl

lists_15 : html (codes "- a\n- b\n\n  c\n- d\n") ≡ codes "<ul>\n<li>\n<p>a</p>\n</li>\n<li>\n<p>b</p>\n<p>c</p>\n</li>\n<li>\n<p>d</p>\n</li>\n</ul>\n"
unfolding html
lists_15 = refl

lists_16 : html (codes "- a\n- b\n\n  [ref]: /url\n- d\n") ≡ codes "<ul>\n<li>\n<p>a</p>\n</li>\n<li>\n<p>b</p>\n</li>\n<li>\n<p>d</p>\n</li>\n</ul>\n"
unfolding html
lists_16 = refl

lists_17 : html (codes "- a\n- ```\n  b\n\n\n  ```\n- c\n") ≡ codes "<ul>\n<li>a</li>\n<li>\n<pre><code>b\n\n\n</code></pre>\n</li>\n<li>c</li>\n</ul>\n"
unfolding html
lists_17 = refl

lists_18 : html (codes "- a\n  - b\n\n    c\n- d\n") ≡ codes "<ul>\n<li>a\n<ul>\n<li>\n<p>b</p>\n<p>c</p>\n</li>\n</ul>\n</li>\n<li>d</li>\n</ul>\n"
unfolding html
lists_18 = refl

lists_19 : html (codes "* a\n  > b\n  >\n* c\n") ≡ codes "<ul>\n<li>a\n<blockquote>\n<p>b</p>\n</blockquote>\n</li>\n<li>c</li>\n</ul>\n"
unfolding html
lists_19 = refl

lists_20 : html (codes "- a\n  > b\n  ```\n  c\n  ```\n- d\n") ≡ codes "<ul>\n<li>a\n<blockquote>\n<p>b</p>\n</blockquote>\n<pre><code>c\n</code></pre>\n</li>\n<li>d</li>\n</ul>\n"
unfolding html
lists_20 = refl

lists_21 : html (codes "- a\n") ≡ codes "<ul>\n<li>a</li>\n</ul>\n"
unfolding html
lists_21 = refl

lists_22 : html (codes "- a\n  - b\n") ≡ codes "<ul>\n<li>a\n<ul>\n<li>b</li>\n</ul>\n</li>\n</ul>\n"
unfolding html
lists_22 = refl

lists_23 : html (codes "1. ```\n   foo\n   ```\n\n   bar\n") ≡ codes "<ol>\n<li>\n<pre><code>foo\n</code></pre>\n<p>bar</p>\n</li>\n</ol>\n"
unfolding html
lists_23 = refl

lists_24 : html (codes "* foo\n  * bar\n\n  baz\n") ≡ codes "<ul>\n<li>\n<p>foo</p>\n<ul>\n<li>bar</li>\n</ul>\n<p>baz</p>\n</li>\n</ul>\n"
unfolding html
lists_24 = refl

lists_25 : html (codes "- a\n  - b\n  - c\n\n- d\n  - e\n  - f\n") ≡ codes "<ul>\n<li>\n<p>a</p>\n<ul>\n<li>b</li>\n<li>c</li>\n</ul>\n</li>\n<li>\n<p>d</p>\n<ul>\n<li>e</li>\n<li>f</li>\n</ul>\n</li>\n</ul>\n"
unfolding html
lists_25 = refl

lists_26 : html (codes "a\n\n1. b\n2. c\n") ≡ codes "<p>a</p>\n<ol>\n<li>b</li>\n<li>c</li>\n</ol>\n"
unfolding html
lists_26 = refl

lists_27 : html (codes "1. a\n2. b\n\n> c\n2. d\n") ≡ codes "<ol>\n<li>a</li>\n<li>b</li>\n</ol>\n<blockquote>\n<p>c</p>\n</blockquote>\n<ol start=\"2\">\n<li>d</li>\n</ol>\n"
unfolding html
lists_27 = refl

lists_28 : html (codes "- a\n\n  [b]: /u\n") ≡ codes "<ul>\n<li>\n<p>a</p>\n</li>\n</ul>\n"
unfolding html
lists_28 = refl

lists_29 : html (codes "- ***\n\n  a\n") ≡ codes "<ul>\n<li>\n<hr />\n<p>a</p>\n</li>\n</ul>\n"
unfolding html
lists_29 = refl
