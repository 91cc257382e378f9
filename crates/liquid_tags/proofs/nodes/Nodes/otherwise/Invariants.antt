use Rattle.std.proofs.Common.{◌≡◌}
use Rattle.liquid_tags.specs.Nodes.{else_of, node_count}
use Rattle.liquid_tags.proofs.nodes.Nodes.otherwise.Given as goal

abbrev pub invariant-loop-first : goal.invariant-loop-first
invariant-loop-first l = else_of l.self ≡ else_of l.rest

abbrev pub decreases-loop-first : goal.decreases-loop-first
decreases-loop-first l = node_count l.rest
