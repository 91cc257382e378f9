use Rattle.std.proofs.Common.{◌≡◌, ◌+◌, length}
use Rattle.cm_tables.specs.Cells.{left}
use Rattle.cm_tables.proofs.cells.Cells.are.Given as goal

abbrev pub invariant-loop-place : goal.invariant-loop-place
invariant-loop-place l = l.place + length (left l.cells) ≡ length (left l.initial.cells)
