use Rattle.std.proofs.Common.{◌≡◌, length, map}
use Rattle.liquid_grammar.specs.Items.{kind_in}
use Rattle.liquid_parse.proofs.tags.look_up.Given as goal

abbrev pub invariant-loop-table : goal.invariant-loop-table
invariant-loop-table l = kind_in (map (λ row. (row.0.now, row.1)) l.table) l.name ≡ kind_in (map (λ row. (row.0.now, row.1)) l.initial.table) l.name

abbrev pub decreases-loop-table : goal.decreases-loop-table
decreases-loop-table l = length l.table
