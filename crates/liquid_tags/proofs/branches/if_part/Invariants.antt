use Rattle.std.proofs.Common.{◌≡◌}
use Rattle.read_record.specs.Queries.{run}
use Rattle.liquid_values.specs.Standing.{place_of}
use Rattle.liquid_tags.specs.Branches.{if_part}
use Rattle.liquid_tags.specs.Nodes.{node_count}
use Rattle.liquid_tags.proofs.branches.if_part.Given as goal

abbrev pub invariant-loop-first : goal.invariant-loop-first
invariant-loop-first g l = record {
  same : g.L.Look.view l.look ≡ g.L.Look.view l.fn.look;
  rest : run (g.L.Look.view l.fn.look) (g.L.Look.trace l.fn.look) (if_part (g.X.Excerpts.excerpts l.place.levels) (place_of l.place) l.assigned l.parts)
      ≡ run (g.L.Look.view l.look) (g.L.Look.trace l.look) (if_part (g.X.Excerpts.excerpts l.place.levels) (place_of l.place) l.assigned l.rest);
}

abbrev pub decreases-loop-first : goal.decreases-loop-first
decreases-loop-first g l = node_count l.rest
