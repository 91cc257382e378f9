-- Block quotes: CommonMark 0.31.2, section 5.1. Each row is a text and its HTML, computed.
use Rattle.std.proofs.Common.{◌≡◌, refl, codes}
use Rattle.markdown_grammar.specs.Html.{html}

block_quotes_1 : html (codes "> # Foo\n> bar\n> baz\n") ≡ codes "<blockquote>\n<h1>Foo</h1>\n<p>bar\nbaz</p>\n</blockquote>\n"
unfolding html
block_quotes_1 = refl

block_quotes_2 : html (codes "># Foo\n>bar\n> baz\n") ≡ codes "<blockquote>\n<h1>Foo</h1>\n<p>bar\nbaz</p>\n</blockquote>\n"
unfolding html
block_quotes_2 = refl

block_quotes_3 : html (codes "    > # Foo\n") ≡ codes "<pre><code>&gt; # Foo\n</code></pre>\n"
unfolding html
block_quotes_3 = refl

block_quotes_4 : html (codes "> bar\nbaz\n> foo\n") ≡ codes "<blockquote>\n<p>bar\nbaz\nfoo</p>\n</blockquote>\n"
unfolding html
block_quotes_4 = refl

block_quotes_5 : html (codes "> foo\n---\n") ≡ codes "<blockquote>\n<p>foo</p>\n</blockquote>\n<hr />\n"
unfolding html
block_quotes_5 = refl

block_quotes_6 : html (codes "> - foo\n- bar\n") ≡ codes "<blockquote>\n<ul>\n<li>foo</li>\n</ul>\n</blockquote>\n<ul>\n<li>bar</li>\n</ul>\n"
unfolding html
block_quotes_6 = refl

block_quotes_7 : html (codes ">     foo\n    bar\n") ≡ codes "<blockquote>\n<pre><code>foo\n</code></pre>\n</blockquote>\n<pre><code>bar\n</code></pre>\n"
unfolding html
block_quotes_7 = refl

block_quotes_8 : html (codes "> ```\nfoo\n```\n") ≡ codes "<blockquote>\n<pre><code></code></pre>\n</blockquote>\n<p>foo</p>\n<pre><code></code></pre>\n"
unfolding html
block_quotes_8 = refl

block_quotes_9 : html (codes "> foo\n    - bar\n") ≡ codes "<blockquote>\n<p>foo\n- bar</p>\n</blockquote>\n"
unfolding html
block_quotes_9 = refl

block_quotes_10 : html (codes ">\n") ≡ codes "<blockquote>\n</blockquote>\n"
unfolding html
block_quotes_10 = refl

block_quotes_11 : html (codes ">\n>  \n> \n") ≡ codes "<blockquote>\n</blockquote>\n"
unfolding html
block_quotes_11 = refl

block_quotes_12 : html (codes ">\n> foo\n>  \n") ≡ codes "<blockquote>\n<p>foo</p>\n</blockquote>\n"
unfolding html
block_quotes_12 = refl

block_quotes_13 : html (codes "> foo\n\n> bar\n") ≡ codes "<blockquote>\n<p>foo</p>\n</blockquote>\n<blockquote>\n<p>bar</p>\n</blockquote>\n"
unfolding html
block_quotes_13 = refl

block_quotes_14 : html (codes "> foo\n> bar\n") ≡ codes "<blockquote>\n<p>foo\nbar</p>\n</blockquote>\n"
unfolding html
block_quotes_14 = refl

block_quotes_15 : html (codes "> foo\n>\n> bar\n") ≡ codes "<blockquote>\n<p>foo</p>\n<p>bar</p>\n</blockquote>\n"
unfolding html
block_quotes_15 = refl

block_quotes_16 : html (codes "foo\n> bar\n") ≡ codes "<p>foo</p>\n<blockquote>\n<p>bar</p>\n</blockquote>\n"
unfolding html
block_quotes_16 = refl

block_quotes_17 : html (codes "> aaa\n***\n> bbb\n") ≡ codes "<blockquote>\n<p>aaa</p>\n</blockquote>\n<hr />\n<blockquote>\n<p>bbb</p>\n</blockquote>\n"
unfolding html
block_quotes_17 = refl

block_quotes_18 : html (codes "> bar\n\nbaz\n") ≡ codes "<blockquote>\n<p>bar</p>\n</blockquote>\n<p>baz</p>\n"
unfolding html
block_quotes_18 = refl

block_quotes_19 : html (codes "> bar\n>\nbaz\n") ≡ codes "<blockquote>\n<p>bar</p>\n</blockquote>\n<p>baz</p>\n"
unfolding html
block_quotes_19 = refl

block_quotes_20 : html (codes "> > > foo\nbar\n") ≡ codes "<blockquote>\n<blockquote>\n<blockquote>\n<p>foo\nbar</p>\n</blockquote>\n</blockquote>\n</blockquote>\n"
unfolding html
block_quotes_20 = refl

block_quotes_21 : html (codes ">>> foo\n> bar\n>>baz\n") ≡ codes "<blockquote>\n<blockquote>\n<blockquote>\n<p>foo\nbar\nbaz</p>\n</blockquote>\n</blockquote>\n</blockquote>\n"
unfolding html
block_quotes_21 = refl

block_quotes_22 : html (codes ">     code\n\n>    not code\n") ≡ codes "<blockquote>\n<pre><code>code\n</code></pre>\n</blockquote>\n<blockquote>\n<p>not code</p>\n</blockquote>\n"
unfolding html
block_quotes_22 = refl
