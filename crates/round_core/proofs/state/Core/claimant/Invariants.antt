use Rattle.std.proofs.Common.{◌≡◌, drop}
use Rattle.round_core.specs.States.{at}
use Rattle.round_core.proofs.state.Core.claimant.Given as goal

abbrev pub invariant-loop-claim : goal.invariant-loop-claim
invariant-loop-claim g l = at l.fn.item l.claim-items ≡ at l.fn.item (drop l.claim-index l.claim-items)
