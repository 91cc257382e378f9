use Rattle.std.proofs.Common.{◌≡◌, length, map}
use Rattle.markdown_grammar.specs.References.{named_in}
use Rattle.cm_links.proofs.names.look_up.Given as goal

abbrev pub invariant-loop-table : goal.invariant-loop-table
invariant-loop-table l = named_in (map (λ row. (row.0.now, row.1)) l.table) l.name ≡ named_in (map (λ row. (row.0.now, row.1)) l.initial.table) l.name

abbrev pub decreases-loop-table : goal.decreases-loop-table
decreases-loop-table l = length l.table
