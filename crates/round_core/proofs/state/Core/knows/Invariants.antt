use Rattle.std.proofs.Common.{◌≡◌, drop}
use Rattle.round_core.specs.States.{at}
use Rattle.round_core.proofs.state.Core.knows.Given as goal

abbrev pub invariant-loop-known : goal.invariant-loop-known
invariant-loop-known g l = at l.fn.worker l.known-items ≡ at l.fn.worker (drop l.known-index l.known-items)
