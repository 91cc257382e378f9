use Rattle.std.proofs.Common.{◌≡◌}
use Rattle.liquid_tags.specs.Nodes.{parts_from, node_count}
use Rattle.liquid_tags.proofs.nodes.Nodes.first_part.Given as goal

abbrev pub invariant-loop-line : goal.invariant-loop-line
invariant-loop-line l = parts_from l.self ≡ parts_from l.rest

abbrev pub decreases-loop-line : goal.decreases-loop-line
decreases-loop-line l = node_count l.rest
