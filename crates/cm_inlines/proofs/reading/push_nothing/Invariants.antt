use Rattle.std.proofs.Common.{◌≡◌, ◌-◌, ◌++◌, replicate}
use Rattle.cm_inlines.specs.declared.node.Node.TheVariants.{Nothing}
use Rattle.cm_inlines.proofs.reading.push_nothing.Given as goal

abbrev pub invariant-loop-left : goal.invariant-loop-left
invariant-loop-left l = l.nodes.items ++ replicate (l.left - 1) Nothing ≡ l.fn.nodes.items ++ replicate (l.len - 1) Nothing

abbrev pub decreases-loop-left : goal.decreases-loop-left
decreases-loop-left l = l.left
