-- Characters, lines, backslash escapes and character references: CommonMark 0.31.2, sections 2.1 and 2.3 to 2.5. Each row is a text and its HTML, computed.
use Rattle.std.proofs.Common.{◌≡◌, [], ◌∷◌, refl, codes}
use Rattle.markdown_grammar.specs.Html.{html}

characters_1 : html ((97 ∷ 13 ∷ 10 ∷ 98 ∷ 13 ∷ 99 ∷ 0 ∷ [])) ≡ (60 ∷ 112 ∷ 62 ∷ 97 ∷ 10 ∷ 98 ∷ 10 ∷ 99 ∷ 239 ∷ 191 ∷ 189 ∷ 60 ∷ 47 ∷ 112 ∷ 62 ∷ 10 ∷ [])
unfolding html
characters_1 = refl

escapes_1 : html (codes "\\!\\\"\\#\\$\\%\\&\\'\\(\\)\\*\\+\n") ≡ codes "<p>!&quot;#$%&amp;'()*+</p>\n"
unfolding html
escapes_1 = refl

escapes_2 : html (codes "\\\tA\\a\\ \n") ≡ codes "<p>\\\tA\\a\\</p>\n"
unfolding html
escapes_2 = refl

escapes_3 : html (codes "\\*not em*\n\\# no\n") ≡ codes "<p>*not em*\n# no</p>\n"
unfolding html
escapes_3 = refl

escapes_4 : html (codes "\\\\*em*\n") ≡ codes "<p>\\<em>em</em></p>\n"
unfolding html
escapes_4 = refl

escapes_5 : html (codes "foo\\\nbar\n") ≡ codes "<p>foo<br />\nbar</p>\n"
unfolding html
escapes_5 = refl

escapes_6 : html (codes "`` \\[\\` ``\n") ≡ codes "<p><code>\\[\\`</code></p>\n"
unfolding html
escapes_6 = refl

escapes_7 : html (codes "[foo](/bar\\* \"ti\\*tle\")\n") ≡ codes "<p><a href=\"/bar*\" title=\"ti*tle\">foo</a></p>\n"
unfolding html
escapes_7 = refl

escapes_8 : html (codes "``` foo\\+bar\nfoo\n```\n") ≡ codes "<pre><code class=\"language-foo+bar\">foo\n</code></pre>\n"
unfolding html
escapes_8 = refl

references_1 : html (codes "&nbsp; &amp; &copy; &frac34; &ndash;\n") ≡ (60 ∷ 112 ∷ 62 ∷ 194 ∷ 160 ∷ 32 ∷ 38 ∷ 97 ∷ 109 ∷ 112 ∷ 59 ∷ 32 ∷ 194 ∷ 169 ∷ 32 ∷ 194 ∷ 190 ∷ 32 ∷ 226 ∷ 128 ∷ 147 ∷ 60 ∷ 47 ∷ 112 ∷ 62 ∷ 10 ∷ [])
unfolding html
references_1 = refl

references_2 : html (codes "&#35; &#1234; &#992; &#0;\n") ≡ (60 ∷ 112 ∷ 62 ∷ 35 ∷ 32 ∷ 211 ∷ 146 ∷ 32 ∷ 207 ∷ 160 ∷ 32 ∷ 239 ∷ 191 ∷ 189 ∷ 60 ∷ 47 ∷ 112 ∷ 62 ∷ 10 ∷ [])
unfolding html
references_2 = refl

references_3 : html (codes "&#X22; &#XD06; &#xcab;\n") ≡ (60 ∷ 112 ∷ 62 ∷ 38 ∷ 113 ∷ 117 ∷ 111 ∷ 116 ∷ 59 ∷ 32 ∷ 224 ∷ 180 ∷ 134 ∷ 32 ∷ 224 ∷ 178 ∷ 171 ∷ 60 ∷ 47 ∷ 112 ∷ 62 ∷ 10 ∷ [])
unfolding html
references_3 = refl

references_4 : html (codes "&nbsp &x; &#; &#x; &#87654321; &#abcdef0;\n") ≡ codes "<p>&amp;nbsp &amp;x; &amp;#; &amp;#x; &amp;#87654321; &amp;#abcdef0;</p>\n"
unfolding html
references_4 = refl

references_5 : html (codes "[foo](/f&ouml;&ouml; \"f&ouml;\")\n") ≡ (60 ∷ 112 ∷ 62 ∷ 60 ∷ 97 ∷ 32 ∷ 104 ∷ 114 ∷ 101 ∷ 102 ∷ 61 ∷ 34 ∷ 47 ∷ 102 ∷ 37 ∷ 67 ∷ 51 ∷ 37 ∷ 66 ∷ 54 ∷ 37 ∷ 67 ∷ 51 ∷ 37 ∷ 66 ∷ 54 ∷ 34 ∷ 32 ∷ 116 ∷ 105 ∷ 116 ∷ 108 ∷ 101 ∷ 61 ∷ 34 ∷ 102 ∷ 195 ∷ 182 ∷ 34 ∷ 62 ∷ 102 ∷ 111 ∷ 111 ∷ 60 ∷ 47 ∷ 97 ∷ 62 ∷ 60 ∷ 47 ∷ 112 ∷ 62 ∷ 10 ∷ [])
unfolding html
references_5 = refl

references_6 : html (codes "&#42;foo&#42;\n*foo*\n") ≡ codes "<p>*foo*\n<em>foo</em></p>\n"
unfolding html
references_6 = refl
