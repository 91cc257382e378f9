use Rattle.std.proofs.Common.{◌≡◌, ◌-◌, ◌++◌, map}
use Rattle.markdown_grammar.specs.Tables.{filled, unescaped}
use Rattle.cm_tables.specs.Cells.{left}
use Rattle.cm_tables.proofs.table.push_row.Given as goal

abbrev pub invariant-loop-column : goal.invariant-loop-column
invariant-loop-column l = l.texts.items ++ filled (l.columns - l.column) (map unescaped (left l.cells)) ≡ l.initial.texts.items ++ filled l.columns (map unescaped (left l.initial.cells))
