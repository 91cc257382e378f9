use Rattle.std.proofs.Common.{◌≡◌, drop}
use Rattle.round_core.specs.States.{at}
use Rattle.round_core.proofs.state.Core.cell.Given as goal

abbrev pub invariant-loop-cell : goal.invariant-loop-cell
invariant-loop-cell g l = at l.fn.item l.cell-items ≡ at l.fn.item (drop l.cell-index l.cell-items)
