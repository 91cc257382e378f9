use Rattle.std.proofs.Common.{◌≡◌, ◌+◌, drop, false}
use Rattle.cm_tables.specs.Cells.{cell_len}
use Rattle.cm_tables.proofs.cells.cell_len.Given as goal

abbrev pub invariant-loop-place : goal.invariant-loop-place
invariant-loop-place l = l.place + cell_len l.escaped (drop l.place l.text) ≡ cell_len false l.text
