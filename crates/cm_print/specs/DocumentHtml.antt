-- Blocks as HTML, behind the text so far: CommonMark 0.31.2, sections 4 and 5.
use Rattle.std.specs.Prelude.{List, ℕ, ◌++◌}
use Rattle.markdown_grammar.specs.Definitions.{Definition}
use Rattle.markdown_grammar.specs.InlineHtml.{inline_html}
use Rattle.markdown_grammar.specs.LeafHtml.{heading_name, tagged}
use Rattle.markdown_grammar.specs.ListTags.{fresh_line, list_tag}
use Rattle.markdown_grammar.specs.Reading.{inlines}
use Rattle.cm_blocks.specs.DocumentHtml.{code_html}

-- the inlines of a text
abbrev pub prose : List Definition → List ℕ → List ℕ
prose defs text = inline_html (inlines defs text)

abbrev pub heading_after : ℕ → List ℕ → List ℕ → List ℕ
heading_after level body out = fresh_line out ++ tagged (heading_name level) body

abbrev pub code_after : List ℕ → List ℕ → List ℕ → List ℕ
code_after info text out = fresh_line out ++ code_html info text

abbrev pub list_after : ℕ → ℕ → List ℕ → List ℕ
list_after kind number out = fresh_line out ++ list_tag kind number
