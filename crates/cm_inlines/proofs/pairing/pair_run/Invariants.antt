use Rattle.std.proofs.Common.{ℕ, List, length, ◌-◌, ◌∷◌}
use Rattle.cm_inlines.specs.Pairing.{Paired}
use Rattle.cm_inlines.specs.declared.node.Node.{Node}
use Rattle.cm_inlines.proofs.pairing.pair_run.Given as goal

abbrev pub invariant-loop-place : goal.invariant-loop-place
invariant-loop-place l = (front : List Node) (ahead : List ℕ) (whole : List Node) → Paired front l.fn.openers.places.items (l.first ∷ ahead) l.fn.openers.misses l.fn.nodes.items whole → Paired front l.openers.places.items (l.place ∷ ahead) l.openers.misses l.nodes.items whole

abbrev pub decreases-loop-place : goal.decreases-loop-place
decreases-loop-place l = length l.nodes.items - l.place
