use Rattle.std.proofs.Common.{arith, length, ◌≤◌}
use Rattle.cm_inlines.proofs.PairLaws.{in_range}
use Rattle.cm_inlines.proofs.pairing.pair_run.Goals as goal

pub returns : goal.returns
returns c = λ front ahead whole p.
    let q = c.loop-place.invariant front ahead whole p in
    let past : length c.loop-place.nodes.items ≤ c.loop-place.place = omega (arith, c.len.ensures, c.loop-place-test.false, c.loop-place.nodes.ok.0) in
    absurd (omega (arith, past, in_range front c.loop-place.place c.loop-place.openers.places.items ahead c.loop-place.openers.misses c.loop-place.nodes.items whole q))
