-- The rows of a table as they are printed.
use Rattle.std.specs.Prelude.{List, codes, map, ℕ}
use Rattle.markdown_grammar.specs.Tables.{cells, filled}
use Rattle.cm_print.specs.declared.table_html.CellKind.{CellKind}
use Rattle.cm_print.specs.declared.table_html.CellKind.TheVariants as kind

-- the name of a cell's tag
abbrev pub cell_name : CellKind → List ℕ
cell_name kind.Header = codes "th"
cell_name kind.Data = codes "td"

-- the cells of each of these lines, in so many columns
abbrev pub rows_of : ℕ → List (List ℕ) → List (List (List ℕ))
rows_of columns lines = map (λ line. filled columns (cells line)) lines
