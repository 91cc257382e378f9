use Rattle.std.proofs.Common.{drop, length, take, ◌-◌, ℕ}
use Rattle.cm_inlines.specs.Machine.{pair_from}
use Rattle.cm_inlines.specs.Pairing.{Paired, Starts}
use Rattle.cm_inlines.proofs.pairing.pair_runs.Given as goal

abbrev pub invariant-loop-place : goal.invariant-loop-place
invariant-loop-place l =
    (start : ℕ) → Starts start l.fn.nodes.items l.places → Paired (take start l.fn.nodes.items) l.openers.places.items (drop l.place-index l.places) l.openers.misses l.nodes.items (pair_from start start (length l.fn.nodes.items - start) l.fn.nodes.items)
