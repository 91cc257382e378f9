-- A table whose cells are read.
use Rattle.std.specs.Prelude.{List, None, Option, Some, flat_map, length, map, ℕ, ◌*◌, ◌≡◌}
use Rattle.markdown_grammar.specs.Definitions.{Definition}
use Rattle.markdown_grammar.specs.Reading.{inlines}
use Rattle.markdown_grammar.specs.Tables as grammar
use Rattle.cm_tables.specs.declared.table.Table.{Table}

-- the texts of all cells, row by row
abbrev pub texts_of : grammar.Table → List (List ℕ)
texts_of t = flat_map (λ row. row) t.rows

-- it is this table, each cell read, and each row as long as the header
pub record IsMade (defs : List Definition) (made : Table) (t : grammar.Table) : Type 0 where
  pub aligns : made.aligns.items ≡ t.aligns
  pub rows : made.rows ≡ length t.rows
  pub cells : made.cells.items ≡ map (inlines defs) (texts_of t)
  pub count : length made.cells.items ≡ made.rows * length made.aligns.items

-- there is a table exactly where there is one in the grammar
abbrev pub IsRead : List Definition → Option Table → Option grammar.Table → Type 0
IsRead defs None found = found ≡ None
IsRead defs (Some made) None = ⊥
IsRead defs (Some made) (Some t) = IsMade defs made t
