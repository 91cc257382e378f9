use Rattle.std.proofs.Common.{None, slice_get, sym, ◌≡◌}
use Rattle.cm_inlines.specs.Machine.{run_at}
use Rattle.cm_inlines.specs.Pairing.{closer_of}
use Rattle.cm_inlines.proofs.PairLaws.{stays_open}
use Rattle.cm_inlines.proofs.pairing.pair_once.Goals as goal

pub returns-in-None-clause-value : goal.returns-in-None-clause-value
returns-in-None-clause-value c = λ front ahead whole.
    let none : closer_of (run_at (slice_get c.args.nodes.now.items c.args.place)) ≡ None = sym (rw c.deref.ensures.value at c.in-None.ensures) in
    stays_open front c.args.place c.args.openers.now.places.items ahead c.args.openers.now.misses c.args.nodes.now.items whole none
