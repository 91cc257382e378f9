-- Precedence and leaf blocks but for HTML: CommonMark 0.31.2, sections 3.1, 4.1 to 4.5 and 4.8. Each row is a text and its HTML, computed.
use Rattle.std.proofs.Common.{◌≡◌, refl, codes}
use Rattle.markdown_grammar.specs.Html.{html}

precedence_1 : html (codes "- `one\n- two`\n") ≡ codes "<ul>\n<li>`one</li>\n<li>two`</li>\n</ul>\n"
unfolding html
precedence_1 = refl

thematic_breaks_1 : html (codes "***\n---\n___\n") ≡ codes "<hr />\n<hr />\n<hr />\n"
unfolding html
thematic_breaks_1 = refl

thematic_breaks_2 : html (codes "+++\n") ≡ codes "<p>+++</p>\n"
unfolding html
thematic_breaks_2 = refl

thematic_breaks_3 : html (codes "--\n**\n__\n") ≡ codes "<p>--\n**\n__</p>\n"
unfolding html
thematic_breaks_3 = refl

thematic_breaks_4 : html (codes " ***\n  ***\n   ***\n") ≡ codes "<hr />\n<hr />\n<hr />\n"
unfolding html
thematic_breaks_4 = refl

thematic_breaks_5 : html (codes "    ***\n") ≡ codes "<pre><code>***\n</code></pre>\n"
unfolding html
thematic_breaks_5 = refl

thematic_breaks_6 : html (codes "Foo\n    ***\n") ≡ codes "<p>Foo\n***</p>\n"
unfolding html
thematic_breaks_6 = refl

thematic_breaks_7 : html (codes "_ _ _ _ a\n") ≡ codes "<p>_ _ _ _ a</p>\n"
unfolding html
thematic_breaks_7 = refl

thematic_breaks_8 : html (codes " *-*\n") ≡ codes "<p><em>-</em></p>\n"
unfolding html
thematic_breaks_8 = refl

thematic_breaks_9 : html (codes "- foo\n***\n- bar\n") ≡ codes "<ul>\n<li>foo</li>\n</ul>\n<hr />\n<ul>\n<li>bar</li>\n</ul>\n"
unfolding html
thematic_breaks_9 = refl

thematic_breaks_10 : html (codes "Foo\n***\nbar\n") ≡ codes "<p>Foo</p>\n<hr />\n<p>bar</p>\n"
unfolding html
thematic_breaks_10 = refl

thematic_breaks_11 : html (codes "Foo\n---\nbar\n") ≡ codes "<h2>Foo</h2>\n<p>bar</p>\n"
unfolding html
thematic_breaks_11 = refl

thematic_breaks_12 : html (codes "* Foo\n* * *\n* Bar\n") ≡ codes "<ul>\n<li>Foo</li>\n</ul>\n<hr />\n<ul>\n<li>Bar</li>\n</ul>\n"
unfolding html
thematic_breaks_12 = refl

thematic_breaks_13 : html (codes "- Foo\n- * * *\n") ≡ codes "<ul>\n<li>Foo</li>\n<li>\n<hr />\n</li>\n</ul>\n"
unfolding html
thematic_breaks_13 = refl

atx_headings_1 : html (codes "# foo\n## foo\n### foo\n#### foo\n##### foo\n###### foo\n####### foo\n") ≡ codes "<h1>foo</h1>\n<h2>foo</h2>\n<h3>foo</h3>\n<h4>foo</h4>\n<h5>foo</h5>\n<h6>foo</h6>\n<p>####### foo</p>\n"
unfolding html
atx_headings_1 = refl

atx_headings_2 : html (codes "#5 bolt\n\n#hashtag\n") ≡ codes "<p>#5 bolt</p>\n<p>#hashtag</p>\n"
unfolding html
atx_headings_2 = refl

atx_headings_3 : html (codes "\\## foo\n") ≡ codes "<p>## foo</p>\n"
unfolding html
atx_headings_3 = refl

atx_headings_4 : html (codes "# foo *bar* \\*baz\\*\n") ≡ codes "<h1>foo <em>bar</em> *baz*</h1>\n"
unfolding html
atx_headings_4 = refl

atx_headings_5 : html (codes "## foo ##\n  ###   bar    ###\n") ≡ codes "<h2>foo</h2>\n<h3>bar</h3>\n"
unfolding html
atx_headings_5 = refl

atx_headings_6 : html (codes "# foo ##################################\n##### foo ##\n") ≡ codes "<h1>foo</h1>\n<h5>foo</h5>\n"
unfolding html
atx_headings_6 = refl

atx_headings_7 : html (codes "### foo ### b\n") ≡ codes "<h3>foo ### b</h3>\n"
unfolding html
atx_headings_7 = refl

atx_headings_8 : html (codes "# foo#\n") ≡ codes "<h1>foo#</h1>\n"
unfolding html
atx_headings_8 = refl

atx_headings_9 : html (codes "### foo \\###\n## foo #\\##\n") ≡ codes "<h3>foo ###</h3>\n<h2>foo ###</h2>\n"
unfolding html
atx_headings_9 = refl

atx_headings_10 : html (codes "## \n#\n### ###\n") ≡ codes "<h2></h2>\n<h1></h1>\n<h3></h3>\n"
unfolding html
atx_headings_10 = refl

setext_headings_1 : html (codes "Foo *bar*\n=========\n\nFoo *bar*\n---------\n") ≡ codes "<h1>Foo <em>bar</em></h1>\n<h2>Foo <em>bar</em></h2>\n"
unfolding html
setext_headings_1 = refl

setext_headings_2 : html (codes "Foo *bar\nbaz*\n====\n") ≡ codes "<h1>Foo <em>bar\nbaz</em></h1>\n"
unfolding html
setext_headings_2 = refl

setext_headings_3 : html (codes "  Foo *bar\nbaz*\t\n====\n") ≡ codes "<h1>Foo <em>bar\nbaz</em></h1>\n"
unfolding html
setext_headings_3 = refl

setext_headings_4 : html (codes "Foo\n   ----      \n") ≡ codes "<h2>Foo</h2>\n"
unfolding html
setext_headings_4 = refl

setext_headings_5 : html (codes "Foo\n    ---\n") ≡ codes "<p>Foo\n---</p>\n"
unfolding html
setext_headings_5 = refl

setext_headings_6 : html (codes "Foo\n= =\n\nFoo\n--- -\n") ≡ codes "<p>Foo\n= =</p>\n<p>Foo</p>\n<hr />\n"
unfolding html
setext_headings_6 = refl

setext_headings_7 : html (codes "Foo  \n-----\n") ≡ codes "<h2>Foo</h2>\n"
unfolding html
setext_headings_7 = refl

setext_headings_8 : html (codes "`Foo\n----\n`\n") ≡ codes "<h2>`Foo</h2>\n<p>`</p>\n"
unfolding html
setext_headings_8 = refl

setext_headings_9 : html (codes "> Foo\n---\n") ≡ codes "<blockquote>\n<p>Foo</p>\n</blockquote>\n<hr />\n"
unfolding html
setext_headings_9 = refl

setext_headings_10 : html (codes "> foo\nbar\n===\n") ≡ codes "<blockquote>\n<p>foo\nbar\n===</p>\n</blockquote>\n"
unfolding html
setext_headings_10 = refl

setext_headings_11 : html (codes "- Foo\n---\n") ≡ codes "<ul>\n<li>Foo</li>\n</ul>\n<hr />\n"
unfolding html
setext_headings_11 = refl

setext_headings_12 : html (codes "---\nFoo\n---\nBar\n---\nBaz\n") ≡ codes "<hr />\n<h2>Foo</h2>\n<h2>Bar</h2>\n<p>Baz</p>\n"
unfolding html
setext_headings_12 = refl

setext_headings_13 : html (codes "\n====\n") ≡ codes "<p>====</p>\n"
unfolding html
setext_headings_13 = refl

setext_headings_14 : html (codes "- foo\n-----\n") ≡ codes "<ul>\n<li>foo</li>\n</ul>\n<hr />\n"
unfolding html
setext_headings_14 = refl

setext_headings_15 : html (codes "> foo\n-----\n") ≡ codes "<blockquote>\n<p>foo</p>\n</blockquote>\n<hr />\n"
unfolding html
setext_headings_15 = refl

setext_headings_16 : html (codes "Foo\nbar\n\\---\nbaz\n") ≡ codes "<p>Foo\nbar\n---\nbaz</p>\n"
unfolding html
setext_headings_16 = refl

indented_code_1 : html (codes "    a simple\n      indented code block\n") ≡ codes "<pre><code>a simple\n  indented code block\n</code></pre>\n"
unfolding html
indented_code_1 = refl

indented_code_2 : html (codes "  - foo\n\n    bar\n") ≡ codes "<ul>\n<li>\n<p>foo</p>\n<p>bar</p>\n</li>\n</ul>\n"
unfolding html
indented_code_2 = refl

indented_code_3 : html (codes "1.  foo\n\n    - bar\n") ≡ codes "<ol>\n<li>\n<p>foo</p>\n<ul>\n<li>bar</li>\n</ul>\n</li>\n</ol>\n"
unfolding html
indented_code_3 = refl

indented_code_4 : html (codes "    chunk1\n\n    chunk2\n  \n \n \n    chunk3\n") ≡ codes "<pre><code>chunk1\n\nchunk2\n\n\n\nchunk3\n</code></pre>\n"
unfolding html
indented_code_4 = refl

indented_code_5 : html (codes "    chunk1\n      \n      chunk2\n") ≡ codes "<pre><code>chunk1\n  \n  chunk2\n</code></pre>\n"
unfolding html
indented_code_5 = refl

indented_code_6 : html (codes "Foo\n    bar\n") ≡ codes "<p>Foo\nbar</p>\n"
unfolding html
indented_code_6 = refl

indented_code_7 : html (codes "    foo\nbar\n") ≡ codes "<pre><code>foo\n</code></pre>\n<p>bar</p>\n"
unfolding html
indented_code_7 = refl

indented_code_8 : html (codes "# Heading\n    foo\nHeading\n------\n    foo\n----\n") ≡ codes "<h1>Heading</h1>\n<pre><code>foo\n</code></pre>\n<h2>Heading</h2>\n<pre><code>foo\n</code></pre>\n<hr />\n"
unfolding html
indented_code_8 = refl

indented_code_9 : html (codes "\n    \n    foo\n    \n") ≡ codes "<pre><code>foo\n</code></pre>\n"
unfolding html
indented_code_9 = refl

indented_code_10 : html (codes "    foo  \n") ≡ codes "<pre><code>foo  \n</code></pre>\n"
unfolding html
indented_code_10 = refl

fenced_code_1 : html (codes "```\n<\n >\n```\n") ≡ codes "<pre><code>&lt;\n &gt;\n</code></pre>\n"
unfolding html
fenced_code_1 = refl

fenced_code_2 : html (codes "~~~\n<\n >\n~~~\n") ≡ codes "<pre><code>&lt;\n &gt;\n</code></pre>\n"
unfolding html
fenced_code_2 = refl

fenced_code_3 : html (codes "``\nfoo\n``\n") ≡ codes "<p><code>foo</code></p>\n"
unfolding html
fenced_code_3 = refl

fenced_code_4 : html (codes "```\naaa\n~~~\n```\n") ≡ codes "<pre><code>aaa\n~~~\n</code></pre>\n"
unfolding html
fenced_code_4 = refl

fenced_code_5 : html (codes "````\naaa\n```\n``````\n") ≡ codes "<pre><code>aaa\n```\n</code></pre>\n"
unfolding html
fenced_code_5 = refl

fenced_code_6 : html (codes "```\n") ≡ codes "<pre><code></code></pre>\n"
unfolding html
fenced_code_6 = refl

fenced_code_7 : html (codes "`````\n\n```\naaa\n") ≡ codes "<pre><code>\n```\naaa\n</code></pre>\n"
unfolding html
fenced_code_7 = refl

fenced_code_8 : html (codes "> ```\n> aaa\n\nbbb\n") ≡ codes "<blockquote>\n<pre><code>aaa\n</code></pre>\n</blockquote>\n<p>bbb</p>\n"
unfolding html
fenced_code_8 = refl

fenced_code_9 : html (codes "```\n\n  \n```\n") ≡ codes "<pre><code>\n  \n</code></pre>\n"
unfolding html
fenced_code_9 = refl

fenced_code_10 : html (codes " ```\n aaa\naaa\n```\n") ≡ codes "<pre><code>aaa\naaa\n</code></pre>\n"
unfolding html
fenced_code_10 = refl

fenced_code_11 : html (codes "   ```\n   aaa\n    aaa\n  aaa\n   ```\n") ≡ codes "<pre><code>aaa\n aaa\naaa\n</code></pre>\n"
unfolding html
fenced_code_11 = refl

fenced_code_12 : html (codes "    ```\n    aaa\n    ```\n") ≡ codes "<pre><code>```\naaa\n```\n</code></pre>\n"
unfolding html
fenced_code_12 = refl

fenced_code_13 : html (codes "```\naaa\n    ```\n") ≡ codes "<pre><code>aaa\n    ```\n</code></pre>\n"
unfolding html
fenced_code_13 = refl

fenced_code_14 : html (codes "``` ```\naaa\n") ≡ codes "<p><code> </code>\naaa</p>\n"
unfolding html
fenced_code_14 = refl

fenced_code_15 : html (codes "~~~~~~\naaa\n~~~ ~~\n") ≡ codes "<pre><code>aaa\n~~~ ~~\n</code></pre>\n"
unfolding html
fenced_code_15 = refl

fenced_code_16 : html (codes "foo\n```\nbar\n```\nbaz\n") ≡ codes "<p>foo</p>\n<pre><code>bar\n</code></pre>\n<p>baz</p>\n"
unfolding html
fenced_code_16 = refl

fenced_code_17 : html (codes "```ruby\ndef foo(x)\n  return 3\nend\n```\n") ≡ codes "<pre><code class=\"language-ruby\">def foo(x)\n  return 3\nend\n</code></pre>\n"
unfolding html
fenced_code_17 = refl

fenced_code_18 : html (codes "~~~~    ruby startline=3 $%@#$\ndef foo(x)\n~~~~~~~\n") ≡ codes "<pre><code class=\"language-ruby\">def foo(x)\n</code></pre>\n"
unfolding html
fenced_code_18 = refl

fenced_code_19 : html (codes "````;\n````\n") ≡ codes "<pre><code class=\"language-;\"></code></pre>\n"
unfolding html
fenced_code_19 = refl

fenced_code_20 : html (codes "``` aa ```\nfoo\n") ≡ codes "<p><code>aa</code>\nfoo</p>\n"
unfolding html
fenced_code_20 = refl

fenced_code_21 : html (codes "~~~ aa ``` ~~~\nfoo\n~~~\n") ≡ codes "<pre><code class=\"language-aa\">foo\n</code></pre>\n"
unfolding html
fenced_code_21 = refl

fenced_code_22 : html (codes "```\n``` aaa\n```\n") ≡ codes "<pre><code>``` aaa\n</code></pre>\n"
unfolding html
fenced_code_22 = refl

paragraphs_1 : html (codes "aaa\n\nbbb\n") ≡ codes "<p>aaa</p>\n<p>bbb</p>\n"
unfolding html
paragraphs_1 = refl

paragraphs_2 : html (codes "aaa\nbbb\n\nccc\nddd\n") ≡ codes "<p>aaa\nbbb</p>\n<p>ccc\nddd</p>\n"
unfolding html
paragraphs_2 = refl

paragraphs_3 : html (codes "  aaa\n bbb\n") ≡ codes "<p>aaa\nbbb</p>\n"
unfolding html
paragraphs_3 = refl

paragraphs_4 : html (codes "aaa\n             bbb\n") ≡ codes "<p>aaa\nbbb</p>\n"
unfolding html
paragraphs_4 = refl

paragraphs_5 : html (codes "aaa     \nbbb     \n") ≡ codes "<p>aaa<br />\nbbb</p>\n"
unfolding html
paragraphs_5 = refl

blank_lines_1 : html (codes "  \n\naaa\n  \n\n# aaa\n\n  \n") ≡ codes "<p>aaa</p>\n<h1>aaa</h1>\n"
unfolding html
blank_lines_1 = refl
