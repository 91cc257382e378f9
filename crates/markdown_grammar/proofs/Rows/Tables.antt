-- Tables: GitHub Flavored Markdown 0.29, section 4.10. Each row is a text and its HTML, computed; or a line and what it is.
use Rattle.std.proofs.Common.{None, Some, [], codes, refl, ◌∷◌, ◌≡◌}
use Rattle.markdown_grammar.specs.Html.{html}
use Rattle.markdown_grammar.specs.Tables.{cells, delimiter_row}
use Rattle.markdown_grammar.specs.declared.align.Align.TheVariants.{Center, Left, Plain, Right}

-- the standard's own examples
standard_1 : html (codes "| foo | bar |\n| --- | --- |\n| baz | bim |\n") ≡ codes "<table>\n<thead>\n<tr>\n<th>foo</th>\n<th>bar</th>\n</tr>\n</thead>\n<tbody>\n<tr>\n<td>baz</td>\n<td>bim</td>\n</tr>\n</tbody>\n</table>\n"
unfolding html
standard_1 = refl

standard_2 : html (codes "| abc | defghi |\n:-: | -----------:\nbar | baz\n") ≡ codes "<table>\n<thead>\n<tr>\n<th align=\"center\">abc</th>\n<th align=\"right\">defghi</th>\n</tr>\n</thead>\n<tbody>\n<tr>\n<td align=\"center\">bar</td>\n<td align=\"right\">baz</td>\n</tr>\n</tbody>\n</table>\n"
unfolding html
standard_2 = refl

standard_3 : html (codes "| f\\|oo  |\n| ------ |\n| b `\\|` az |\n| b **\\|** im |\n") ≡ codes "<table>\n<thead>\n<tr>\n<th>f|oo</th>\n</tr>\n</thead>\n<tbody>\n<tr>\n<td>b <code>|</code> az</td>\n</tr>\n<tr>\n<td>b <strong>|</strong> im</td>\n</tr>\n</tbody>\n</table>\n"
unfolding html
standard_3 = refl

standard_4 : html (codes "| abc | def |\n| --- | --- |\n| bar | baz |\n> bar\n") ≡ codes "<table>\n<thead>\n<tr>\n<th>abc</th>\n<th>def</th>\n</tr>\n</thead>\n<tbody>\n<tr>\n<td>bar</td>\n<td>baz</td>\n</tr>\n</tbody>\n</table>\n<blockquote>\n<p>bar</p>\n</blockquote>\n"
unfolding html
standard_4 = refl

standard_5 : html (codes "| abc | def |\n| --- | --- |\n| bar | baz |\nbar\n\nbar\n") ≡ codes "<table>\n<thead>\n<tr>\n<th>abc</th>\n<th>def</th>\n</tr>\n</thead>\n<tbody>\n<tr>\n<td>bar</td>\n<td>baz</td>\n</tr>\n<tr>\n<td>bar</td>\n<td></td>\n</tr>\n</tbody>\n</table>\n<p>bar</p>\n"
unfolding html
standard_5 = refl

standard_6 : html (codes "| abc | def |\n| --- |\n| bar |\n") ≡ codes "<p>| abc | def |\n| --- |\n| bar |</p>\n"
unfolding html
standard_6 = refl

standard_7 : html (codes "| abc | def |\n| --- | --- |\n| bar |\n| bar | baz | boo |\n") ≡ codes "<table>\n<thead>\n<tr>\n<th>abc</th>\n<th>def</th>\n</tr>\n</thead>\n<tbody>\n<tr>\n<td>bar</td>\n<td></td>\n</tr>\n<tr>\n<td>bar</td>\n<td>baz</td>\n</tr>\n</tbody>\n</table>\n"
unfolding html
standard_7 = refl

standard_8 : html (codes "| abc | def |\n| --- | --- |\n") ≡ codes "<table>\n<thead>\n<tr>\n<th>abc</th>\n<th>def</th>\n</tr>\n</thead>\n</table>\n"
unfolding html
standard_8 = refl

-- alignments, an escaped pipe, a cell too many and a row with too few
aligned : html (codes "| a | b |\n|:--|--:|\n| 1 \\| 2 | *x* | y |\n| z |\n") ≡ codes "<table>\n<thead>\n<tr>\n<th align=\"left\">a</th>\n<th align=\"right\">b</th>\n</tr>\n</thead>\n<tbody>\n<tr>\n<td align=\"left\">1 | 2</td>\n<td align=\"right\"><em>x</em></td>\n</tr>\n<tr>\n<td align=\"left\">z</td>\n<td align=\"right\"></td>\n</tr>\n</tbody>\n</table>\n"
unfolding html
aligned = refl

too_few_delimiters : html (codes "| a | b |\n| --- |\n") ≡ codes "<p>| a | b |\n| --- |</p>\n"
unfolding html
too_few_delimiters = refl

one_column : html (codes "a\n|-|\n") ≡ codes "<table>\n<thead>\n<tr>\n<th>a</th>\n</tr>\n</thead>\n</table>\n"
unfolding html
one_column = refl

-- of one pipe alone and of two comes one empty cell, of three two
empty_cells : html (codes "|||\n|-|-|\n||\n|\n") ≡ codes "<table>\n<thead>\n<tr>\n<th></th>\n<th></th>\n</tr>\n</thead>\n<tbody>\n<tr>\n<td></td>\n<td></td>\n</tr>\n<tr>\n<td></td>\n<td></td>\n</tr>\n</tbody>\n</table>\n"
unfolding html
empty_cells = refl

each_alignment : html (codes "|a|b|c|d|\n|-|:-|-:|:-:|\n||\\||\n") ≡ codes "<table>\n<thead>\n<tr>\n<th>a</th>\n<th align=\"left\">b</th>\n<th align=\"right\">c</th>\n<th align=\"center\">d</th>\n</tr>\n</thead>\n<tbody>\n<tr>\n<td></td>\n<td align=\"left\">|</td>\n<td align=\"right\"></td>\n<td align=\"center\"></td>\n</tr>\n</tbody>\n</table>\n"
unfolding html
each_alignment = refl

-- whatever stands before it, a backslash directly before a pipe keeps it in its cell, and goes
backslashes : html (codes "a\n|-|\n\\| b\n\\\\| b\n\\\\\\| b\n") ≡ codes "<table>\n<thead>\n<tr>\n<th>a</th>\n</tr>\n</thead>\n<tbody>\n<tr>\n<td>| b</td>\n</tr>\n<tr>\n<td>| b</td>\n</tr>\n<tr>\n<td>\\| b</td>\n</tr>\n</tbody>\n</table>\n"
unfolding html
backslashes = refl

in_a_tight_list : html (codes "- a|b\n  -|-\n  1|2\n- c\n") ≡ codes "<ul>\n<li>\n<table>\n<thead>\n<tr>\n<th>a</th>\n<th>b</th>\n</tr>\n</thead>\n<tbody>\n<tr>\n<td>1</td>\n<td>2</td>\n</tr>\n</tbody>\n</table>\n</li>\n<li>c</li>\n</ul>\n"
unfolding html
in_a_tight_list = refl

-- a paragraph's text stands behind its definitions; its first line is the header
behind_a_definition : html (codes "[a]: /u\n[a]|b\n-|-\n") ≡ codes "<table>\n<thead>\n<tr>\n<th><a href=\"/u\">a</a></th>\n<th>b</th>\n</tr>\n</thead>\n</table>\n"
unfolding html
behind_a_definition = refl

behind_text : html (codes "x\na|b\n-|-\n") ≡ codes "<p>x\na|b\n-|-</p>\n"
unfolding html
behind_text = refl

-- what makes a heading makes no table
heading : html (codes "a|b\n---\n") ≡ codes "<h2>a|b</h2>\n"
unfolding html
heading = refl

-- the texts of a line's cells
cells_1 : cells (codes " a | b ") ≡ codes "a" ∷ codes "b" ∷ []
cells_1 = refl

cells_2 : cells (codes "|a\\|b|") ≡ codes "a|b" ∷ []
cells_2 = refl

cells_3 : cells (codes "|") ≡ codes "" ∷ []
cells_3 = refl

cells_4 : cells (codes "||") ≡ codes "" ∷ []
cells_4 = refl

cells_5 : cells (codes "|||") ≡ codes "" ∷ codes "" ∷ []
cells_5 = refl

cells_6 : cells (codes "a|b\\|") ≡ codes "a" ∷ codes "b|" ∷ []
cells_6 = refl

cells_7 : cells (9 ∷ 11 ∷ 124 ∷ 32 ∷ 97 ∷ 32 ∷ 12 ∷ 124 ∷ 32 ∷ 98 ∷ 9 ∷ []) ≡ codes "a" ∷ codes "b" ∷ []
cells_7 = refl

-- delimiter rows
delimiters_1 : delimiter_row (codes "-|-") ≡ Some (Plain ∷ Plain ∷ [])
delimiters_1 = refl

delimiters_2 : delimiter_row (codes "|:-|-:|:-:|---|") ≡ Some (Left ∷ Right ∷ Center ∷ Plain ∷ [])
delimiters_2 = refl

delimiters_3 : delimiter_row (codes "  | :--: |  ") ≡ Some (Center ∷ [])
delimiters_3 = refl

-- lines that are no delimiter row: without a pipe, without hyphens, with something else in a cell
none_1 : delimiter_row (codes "---") ≡ None
none_1 = refl

none_2 : delimiter_row (codes ":--") ≡ None
none_2 = refl

none_3 : delimiter_row (codes "|") ≡ None
none_3 = refl

none_4 : delimiter_row (codes "|:|") ≡ None
none_4 = refl

none_5 : delimiter_row (codes "|::|") ≡ None
none_5 = refl

none_6 : delimiter_row (codes "|- -|") ≡ None
none_6 = refl

none_7 : delimiter_row (codes "|-:-|") ≡ None
none_7 = refl

none_8 : delimiter_row (codes "|::-|") ≡ None
none_8 = refl

none_9 : delimiter_row (codes "|--+--|") ≡ None
none_9 = refl

none_10 : delimiter_row (codes "|-\\|-|") ≡ None
none_10 = refl

none_11 : delimiter_row (codes "|-|x|") ≡ None
none_11 = refl

none_12 : delimiter_row (codes "|-||") ≡ None
none_12 = refl
