use Rattle.std.proofs.Common.{◌≡◌}
use Rattle.liquid_tags.specs.Blanks.{writes_nothing}
use Rattle.liquid_tags.specs.Nodes.{node_count}
use Rattle.liquid_tags.proofs.blanks.write_nothing.Given as goal

abbrev pub invariant-loop-rest : goal.invariant-loop-rest
invariant-loop-rest l = writes_nothing l.nodes ≡ writes_nothing l.rest

abbrev pub decreases-loop-rest : goal.decreases-loop-rest
decreases-loop-rest l = node_count l.rest
