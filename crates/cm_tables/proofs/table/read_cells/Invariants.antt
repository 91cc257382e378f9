use Rattle.std.proofs.Common.{◌≡◌, ◌++◌, drop, map}
use Rattle.markdown_grammar.specs.Reading.{inlines}
use Rattle.cm_tables.proofs.table.read_cells.Given as goal

abbrev pub invariant-loop-text : goal.invariant-loop-text
invariant-loop-text l = l.cells.items ++ map (inlines l.links) (drop l.text-index l.texts) ≡ l.initial.cells.items ++ map (inlines l.links) l.texts
