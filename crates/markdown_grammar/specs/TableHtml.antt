-- Tables as HTML. After GitHub Flavored Markdown 0.29, section 4.10.
use Rattle.std.specs.Prelude.{List, [], codes, flat_map, ℕ, ◌++◌, ◌∷◌}
use Rattle.markdown_grammar.specs.Definitions.{Definition}
use Rattle.markdown_grammar.specs.InlineHtml.{inline_html}
use Rattle.markdown_grammar.specs.Reading.{inlines}
use Rattle.markdown_grammar.specs.Tables.{Table}
use Rattle.markdown_grammar.specs.declared.align.Align.{Align}
use Rattle.markdown_grammar.specs.declared.align.Align.TheVariants.{Center, Left, Plain, Right}

-- the attribute of a column's cells
abbrev pub align_text : Align → List ℕ
align_text Plain = []
align_text Left = codes " align=\"left\""
align_text Right = codes " align=\"right\""
align_text Center = codes " align=\"center\""

-- the tags of a cell, by its name
abbrev pub cell_start : List ℕ → Align → List ℕ
cell_start name align = codes "<" ++ (name ++ (align_text align ++ codes ">"))

abbrev pub cell_end : List ℕ → List ℕ
cell_end name = codes "</" ++ (name ++ codes ">\n")

abbrev pub cell_html : List Definition → List ℕ → Align → List ℕ → List ℕ
cell_html defs name align text = cell_start name align ++ (inline_html (inlines defs text) ++ cell_end name)

-- the cells of a row, each in its column
abbrev pub cells_html : List Definition → List ℕ → List Align → List (List ℕ) → List ℕ
cells_html defs name [] texts = []
cells_html defs name (align ∷ aligns) [] = []
cells_html defs name (align ∷ aligns) (text ∷ texts) = cell_html defs name align text ++ cells_html defs name aligns texts

abbrev pub row_html : List Definition → List ℕ → List Align → List (List ℕ) → List ℕ
row_html defs name aligns texts = codes "<tr>\n" ++ (cells_html defs name aligns texts ++ codes "</tr>\n")

-- the rows below the header, if there are any
abbrev pub body_html : List Definition → List Align → List (List (List ℕ)) → List ℕ
body_html defs aligns [] = []
body_html defs aligns (row ∷ rows) = codes "<tbody>\n" ++ (flat_map (row_html defs (codes "td") aligns) (row ∷ rows) ++ codes "</tbody>\n")

-- the header, and the rows below it
abbrev pub parts_html : List Definition → List Align → List (List (List ℕ)) → List ℕ
parts_html defs aligns [] = []
parts_html defs aligns (header ∷ rows) = codes "<thead>\n" ++ (row_html defs (codes "th") aligns header ++ (codes "</thead>\n" ++ body_html defs aligns rows))

abbrev pub table_html : List Definition → Table → List ℕ
table_html defs table = codes "<table>\n" ++ (parts_html defs table.aligns table.rows ++ codes "</table>\n")
