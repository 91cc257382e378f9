-- A document as HTML.
use Rattle.std.specs.Prelude.{Bool, List, [], codes, false, not, ℕ, ◌++◌}
use Rattle.markdown_grammar.specs.Definitions.{Definition}
use Rattle.markdown_grammar.specs.Escaping.{escaped}
use Rattle.markdown_grammar.specs.InlineHtml.{inline_html}
use Rattle.markdown_grammar.specs.LeafHtml.{class_text, heading_name, info_word, paragraph_onto, tagged}
use Rattle.markdown_grammar.specs.ListTags.{fresh_line, in_list, list_closed, list_tag}
use Rattle.markdown_grammar.specs.Reading.{inlines}
use Rattle.cm_blocks.specs.Documents.{Document, code, heading, html, item, list, nothing, paragraph, quote, thematic_break}

-- a code block
abbrev pub code_html : List ℕ → List ℕ → List ℕ
code_html info text = codes "<pre><code" ++ (class_text (info_word info) ++ (codes ">" ++ (escaped text ++ codes "</code></pre>\n")))

-- the text so far, and after it a document
abbrev pub document_onto : List Definition → Bool → Document → List ℕ → List ℕ
document_onto defs tight nothing out = out
document_onto defs tight (paragraph text rest) out = document_onto defs tight rest (paragraph_onto defs tight text out)
document_onto defs tight (heading level text rest) out = document_onto defs tight rest (fresh_line out ++ tagged (heading_name level) (inline_html (inlines defs text)))
document_onto defs tight (thematic_break rest) out = document_onto defs tight rest (fresh_line out ++ codes "<hr />\n")
document_onto defs tight (code info text rest) out = document_onto defs tight rest (fresh_line out ++ code_html info text)
document_onto defs tight (html text rest) out = document_onto defs tight rest (fresh_line out ++ text)
document_onto defs tight (quote body rest) out = document_onto defs tight rest (document_onto defs false body (fresh_line out ++ codes "<blockquote>\n") ++ codes "</blockquote>\n")
document_onto defs tight (list kind number loose items rest) out = document_onto defs tight rest (list_closed (in_list kind loose) (document_onto defs (not loose) items (fresh_line out ++ list_tag kind number)))
document_onto defs tight (item body rest) out = document_onto defs tight rest (document_onto defs tight body (out ++ codes "<li>") ++ codes "</li>\n")

-- the HTML of a document, in which these definitions are known
abbrev pub document_html : List Definition → Document → List ℕ
document_html defs d = document_onto defs false d []
