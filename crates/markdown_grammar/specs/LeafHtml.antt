-- Leaf blocks as HTML.
use Rattle.std.specs.Prelude.{Bool, List, None, Option, Some, [], codes, if◌then◌else◌, not, take, ℕ, ◌++◌, ◌+◌, ◌∷◌}
use Rattle.site_text.specs.Bytes.{is_white}
use Rattle.site_text.specs.Fronts.{run_len}
use Rattle.markdown_grammar.specs.Definitions.{Definition, after_definitions}
use Rattle.markdown_grammar.specs.Escaping.{escaped}
use Rattle.markdown_grammar.specs.Fronts.{is_empty}
use Rattle.markdown_grammar.specs.InlineHtml.{inline_html}
use Rattle.markdown_grammar.specs.Leaves.{Leaf, atx_heading, fenced_code, html_block, indented_code, paragraph, setext_heading, thematic_break}
use Rattle.markdown_grammar.specs.Lines.{ended_lines, joined_lines, trim}
use Rattle.markdown_grammar.specs.ListTags.{fresh_line}
use Rattle.markdown_grammar.specs.Reading.{inlines}
use Rattle.markdown_grammar.specs.References.{resolved}
use Rattle.markdown_grammar.specs.TableHtml.{table_html}
use Rattle.markdown_grammar.specs.Tables.{Table, table_of}

-- `<tag>`, text, `</tag>`
abbrev pub tagged : List ℕ → List ℕ → List ℕ
tagged name body = codes "<" ++ (name ++ (codes ">" ++ (body ++ (codes "</" ++ (name ++ codes ">\n")))))

-- `h` and the level
abbrev pub heading_name : ℕ → List ℕ
heading_name level = 104 ∷ (48 + level) ∷ []

-- the text of a paragraph or heading, without its definitions
abbrev pub prose_text : List (List ℕ) → List ℕ
prose_text texts = trim (after_definitions (joined_lines texts))

-- the first word of an info string, which names a language
abbrev pub info_word : List ℕ → List ℕ
info_word info = let t = resolved info in take (run_len (λ c. not (is_white c)) t) t

-- the class of code with a language
abbrev pub class_text : List ℕ → List ℕ
class_text w = if is_empty w then [] else codes " class=\"language-" ++ (escaped w ++ codes "\"")

-- a code block
abbrev pub code_text : List ℕ → List (List ℕ) → List ℕ
code_text info texts = codes "<pre><code" ++ (class_text (info_word info) ++ (codes ">" ++ (escaped (ended_lines texts) ++ codes "</code></pre>\n")))

-- the text so far, and after it prose: in a tight list its inlines alone
abbrev pub prose_onto : Bool → List ℕ → List ℕ → List ℕ
prose_onto tight body out = if tight then out ++ body else fresh_line out ++ tagged (codes "p") body

-- the text so far, and after it a paragraph's text, which is this table or none
abbrev pub table_or_prose_onto : List Definition → Bool → List ℕ → Option Table → List ℕ → List ℕ
table_or_prose_onto defs tight text (Some table) out = fresh_line out ++ table_html defs table
table_or_prose_onto defs tight text None out = prose_onto tight (inline_html (inlines defs text)) out

-- the text so far, and after it a paragraph, unless nothing stands in it
abbrev pub paragraph_onto : List Definition → Bool → List ℕ → List ℕ → List ℕ
paragraph_onto defs tight text out = if is_empty text then out else table_or_prose_onto defs tight text (table_of text) out

-- the text so far, and after it a leaf
abbrev pub leaf_onto : List Definition → Bool → Leaf → List ℕ → List ℕ
leaf_onto defs tight (paragraph texts) out = paragraph_onto defs tight (prose_text texts) out
leaf_onto defs tight (setext_heading level texts) out = fresh_line out ++ tagged (heading_name level) (inline_html (inlines defs (prose_text texts)))
leaf_onto defs tight (atx_heading level line) out = fresh_line out ++ tagged (heading_name level) (inline_html (inlines defs line))
leaf_onto defs tight thematic_break out = fresh_line out ++ codes "<hr />\n"
leaf_onto defs tight (indented_code texts pending) out = fresh_line out ++ code_text [] texts
leaf_onto defs tight (fenced_code i mark len info texts is_closed) out = fresh_line out ++ code_text info texts
leaf_onto defs tight (html_block kind texts is_closed) out = fresh_line out ++ ended_lines texts
