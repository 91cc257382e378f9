use Rattle.std.proofs.Common.{◌≡◌, ◌++◌, flat_map, length}
use Rattle.markdown_grammar.specs.Tables.{cells, filled}
use Rattle.cm_tables.specs.Rows.{below}
use Rattle.cm_tables.proofs.table.push_texts.Given as goal

abbrev pub invariant-loop-line : goal.invariant-loop-line
invariant-loop-line l = l.texts.items ++ flat_map (λ line. filled l.columns (cells line)) (below l.rows) ≡ l.initial.texts.items ++ flat_map (λ line. filled l.columns (cells line)) (below l.initial.rows)

abbrev pub decreases-loop-line : goal.decreases-loop-line
decreases-loop-line l = length (below l.rows)
