use Rattle.std.proofs.Common.{◌≡◌, ◌++◌, length, option_map}
use Rattle.markdown_grammar.specs.Tables.{aligns_of}
use Rattle.cm_tables.specs.Cells.{left}
use Rattle.cm_tables.proofs.delimiters.aligns_of.Given as goal

abbrev pub invariant-loop-cell : goal.invariant-loop-cell
invariant-loop-cell l = option_map (λ rest. l.aligns.items ++ rest) (aligns_of (left l.cells)) ≡ aligns_of (left l.initial.cells)

abbrev pub decreases-loop-cell : goal.decreases-loop-cell
decreases-loop-cell l = length (left l.cells)
