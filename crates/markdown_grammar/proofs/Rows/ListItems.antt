-- List items: CommonMark 0.31.2, section 5.2. Each row is a text and its HTML, computed.
use Rattle.std.proofs.Common.{◌≡◌, refl, codes}
use Rattle.markdown_grammar.specs.Html.{html}

list_items_1 : html (codes "A paragraph\nwith two lines.\n\n    indented code\n\n> A block quote.\n") ≡ codes "<p>A paragraph\nwith two lines.</p>\n<pre><code>indented code\n</code></pre>\n<blockquote>\n<p>A block quote.</p>\n</blockquote>\n"
unfolding html
list_items_1 = refl

list_items_2 : html (codes "1.  A paragraph\n    with two lines.\n\n        indented code\n\n    > A block quote.\n") ≡ codes "<ol>\n<li>\n<p>A paragraph\nwith two lines.</p>\n<pre><code>indented code\n</code></pre>\n<blockquote>\n<p>A block quote.</p>\n</blockquote>\n</li>\n</ol>\n"
unfolding html
list_items_2 = refl

list_items_3 : html (codes "- one\n\n two\n") ≡ codes "<ul>\n<li>one</li>\n</ul>\n<p>two</p>\n"
unfolding html
list_items_3 = refl

list_items_4 : html (codes "- one\n\n  two\n") ≡ codes "<ul>\n<li>\n<p>one</p>\n<p>two</p>\n</li>\n</ul>\n"
unfolding html
list_items_4 = refl

list_items_5 : html (codes " -    one\n\n     two\n") ≡ codes "<ul>\n<li>one</li>\n</ul>\n<pre><code> two\n</code></pre>\n"
unfolding html
list_items_5 = refl

list_items_6 : html (codes " -    one\n\n      two\n") ≡ codes "<ul>\n<li>\n<p>one</p>\n<p>two</p>\n</li>\n</ul>\n"
unfolding html
list_items_6 = refl

list_items_7 : html (codes "   > > 1.  one\n>>\n>>     two\n") ≡ codes "<blockquote>\n<blockquote>\n<ol>\n<li>\n<p>one</p>\n<p>two</p>\n</li>\n</ol>\n</blockquote>\n</blockquote>\n"
unfolding html
list_items_7 = refl

list_items_8 : html (codes ">>- one\n>>\n  >  > two\n") ≡ codes "<blockquote>\n<blockquote>\n<ul>\n<li>one</li>\n</ul>\n<p>two</p>\n</blockquote>\n</blockquote>\n"
unfolding html
list_items_8 = refl

list_items_9 : html (codes "-one\n\n2.two\n") ≡ codes "<p>-one</p>\n<p>2.two</p>\n"
unfolding html
list_items_9 = refl

list_items_10 : html (codes "- foo\n\n\n  bar\n") ≡ codes "<ul>\n<li>\n<p>foo</p>\n<p>bar</p>\n</li>\n</ul>\n"
unfolding html
list_items_10 = refl

list_items_11 : html (codes "1.  foo\n\n    ```\n    bar\n    ```\n\n    baz\n\n    > bam\n") ≡ codes "<ol>\n<li>\n<p>foo</p>\n<pre><code>bar\n</code></pre>\n<p>baz</p>\n<blockquote>\n<p>bam</p>\n</blockquote>\n</li>\n</ol>\n"
unfolding html
list_items_11 = refl

list_items_12 : html (codes "- Foo\n\n      bar\n\n\n      baz\n") ≡ codes "<ul>\n<li>\n<p>Foo</p>\n<pre><code>bar\n\n\nbaz\n</code></pre>\n</li>\n</ul>\n"
unfolding html
list_items_12 = refl

list_items_13 : html (codes "123456789. ok\n") ≡ codes "<ol start=\"123456789\">\n<li>ok</li>\n</ol>\n"
unfolding html
list_items_13 = refl

list_items_14 : html (codes "1234567890. not ok\n") ≡ codes "<p>1234567890. not ok</p>\n"
unfolding html
list_items_14 = refl

list_items_15 : html (codes "0. ok\n") ≡ codes "<ol start=\"0\">\n<li>ok</li>\n</ol>\n"
unfolding html
list_items_15 = refl

list_items_16 : html (codes "003. ok\n") ≡ codes "<ol start=\"3\">\n<li>ok</li>\n</ol>\n"
unfolding html
list_items_16 = refl

list_items_17 : html (codes "-1. not ok\n") ≡ codes "<p>-1. not ok</p>\n"
unfolding html
list_items_17 = refl

list_items_18 : html (codes "- foo\n\n      bar\n") ≡ codes "<ul>\n<li>\n<p>foo</p>\n<pre><code>bar\n</code></pre>\n</li>\n</ul>\n"
unfolding html
list_items_18 = refl

list_items_19 : html (codes "  10.  foo\n\n           bar\n") ≡ codes "<ol start=\"10\">\n<li>\n<p>foo</p>\n<pre><code>bar\n</code></pre>\n</li>\n</ol>\n"
unfolding html
list_items_19 = refl

list_items_20 : html (codes "1.     indented code\n\n   paragraph\n\n       more code\n") ≡ codes "<ol>\n<li>\n<pre><code>indented code\n</code></pre>\n<p>paragraph</p>\n<pre><code>more code\n</code></pre>\n</li>\n</ol>\n"
unfolding html
list_items_20 = refl

list_items_21 : html (codes "1.      indented code\n\n   paragraph\n") ≡ codes "<ol>\n<li>\n<pre><code> indented code\n</code></pre>\n<p>paragraph</p>\n</li>\n</ol>\n"
unfolding html
list_items_21 = refl

list_items_22 : html (codes "   foo\n\nbar\n") ≡ codes "<p>foo</p>\n<p>bar</p>\n"
unfolding html
list_items_22 = refl

list_items_23 : html (codes "-    foo\n\n  bar\n") ≡ codes "<ul>\n<li>foo</li>\n</ul>\n<p>bar</p>\n"
unfolding html
list_items_23 = refl

list_items_24 : html (codes "-  foo\n\n   bar\n") ≡ codes "<ul>\n<li>\n<p>foo</p>\n<p>bar</p>\n</li>\n</ul>\n"
unfolding html
list_items_24 = refl

list_items_25 : html (codes "-\n  foo\n-\n  ```\n  bar\n  ```\n-\n      baz\n") ≡ codes "<ul>\n<li>foo</li>\n<li>\n<pre><code>bar\n</code></pre>\n</li>\n<li>\n<pre><code>baz\n</code></pre>\n</li>\n</ul>\n"
unfolding html
list_items_25 = refl

list_items_26 : html (codes "-   \n  foo\n") ≡ codes "<ul>\n<li>foo</li>\n</ul>\n"
unfolding html
list_items_26 = refl

list_items_27 : html (codes "-\n\n  foo\n") ≡ codes "<ul>\n<li></li>\n</ul>\n<p>foo</p>\n"
unfolding html
list_items_27 = refl

list_items_28 : html (codes "- foo\n-\n- bar\n") ≡ codes "<ul>\n<li>foo</li>\n<li></li>\n<li>bar</li>\n</ul>\n"
unfolding html
list_items_28 = refl

list_items_29 : html (codes "- foo\n-   \n- bar\n") ≡ codes "<ul>\n<li>foo</li>\n<li></li>\n<li>bar</li>\n</ul>\n"
unfolding html
list_items_29 = refl

list_items_30 : html (codes "1. foo\n2.\n3. bar\n") ≡ codes "<ol>\n<li>foo</li>\n<li></li>\n<li>bar</li>\n</ol>\n"
unfolding html
list_items_30 = refl

list_items_31 : html (codes "*\n") ≡ codes "<ul>\n<li></li>\n</ul>\n"
unfolding html
list_items_31 = refl

list_items_32 : html (codes "foo\n*\n\nfoo\n1.\n") ≡ codes "<p>foo\n*</p>\n<p>foo\n1.</p>\n"
unfolding html
list_items_32 = refl

list_items_33 : html (codes "    1.  A paragraph\n") ≡ codes "<pre><code>1.  A paragraph\n</code></pre>\n"
unfolding html
list_items_33 = refl

list_items_34 : html (codes "  1.  A paragraph\nwith two lines.\n\n          indented code\n") ≡ codes "<ol>\n<li>\n<p>A paragraph\nwith two lines.</p>\n<pre><code>indented code\n</code></pre>\n</li>\n</ol>\n"
unfolding html
list_items_34 = refl

list_items_35 : html (codes "  1.  A paragraph\n    with two lines.\n") ≡ codes "<ol>\n<li>A paragraph\nwith two lines.</li>\n</ol>\n"
unfolding html
list_items_35 = refl

list_items_36 : html (codes "> 1. > Blockquote\ncontinued here.\n") ≡ codes "<blockquote>\n<ol>\n<li>\n<blockquote>\n<p>Blockquote\ncontinued here.</p>\n</blockquote>\n</li>\n</ol>\n</blockquote>\n"
unfolding html
list_items_36 = refl

list_items_37 : html (codes "> 1. > Blockquote\n> continued here.\n") ≡ codes "<blockquote>\n<ol>\n<li>\n<blockquote>\n<p>Blockquote\ncontinued here.</p>\n</blockquote>\n</li>\n</ol>\n</blockquote>\n"
unfolding html
list_items_37 = refl

list_items_38 : html (codes "- foo\n  - bar\n    - baz\n      - boo\n") ≡ codes "<ul>\n<li>foo\n<ul>\n<li>bar\n<ul>\n<li>baz\n<ul>\n<li>boo</li>\n</ul>\n</li>\n</ul>\n</li>\n</ul>\n</li>\n</ul>\n"
unfolding html
list_items_38 = refl

list_items_39 : html (codes "- foo\n - bar\n  - baz\n   - boo\n") ≡ codes "<ul>\n<li>foo</li>\n<li>bar</li>\n<li>baz</li>\n<li>boo</li>\n</ul>\n"
unfolding html
list_items_39 = refl

list_items_40 : html (codes "10) foo\n    - bar\n") ≡ codes "<ol start=\"10\">\n<li>foo\n<ul>\n<li>bar</li>\n</ul>\n</li>\n</ol>\n"
unfolding html
list_items_40 = refl

list_items_41 : html (codes "10) foo\n   - bar\n") ≡ codes "<ol start=\"10\">\n<li>foo</li>\n</ol>\n<ul>\n<li>bar</li>\n</ul>\n"
unfolding html
list_items_41 = refl

list_items_42 : html (codes "- - foo\n") ≡ codes "<ul>\n<li>\n<ul>\n<li>foo</li>\n</ul>\n</li>\n</ul>\n"
unfolding html
list_items_42 = refl

list_items_43 : html (codes "1. - 2. foo\n") ≡ codes "<ol>\n<li>\n<ul>\n<li>\n<ol start=\"2\">\n<li>foo</li>\n</ol>\n</li>\n</ul>\n</li>\n</ol>\n"
unfolding html
list_items_43 = refl

list_items_44 : html (codes "- # Foo\n- Bar\n  ---\n  baz\n") ≡ codes "<ul>\n<li>\n<h1>Foo</h1>\n</li>\n<li>\n<h2>Bar</h2>\nbaz</li>\n</ul>\n"
unfolding html
list_items_44 = refl

list_items_45 : html (codes "-\n   \n  a\n") ≡ codes "<ul>\n<li></li>\n</ul>\n<p>a</p>\n"
unfolding html
list_items_45 = refl
