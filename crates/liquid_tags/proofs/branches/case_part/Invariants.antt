use Rattle.std.proofs.Common.{◌≡◌}
use Rattle.site_base.specs.View.{plain}
use Rattle.read_record.specs.Queries.{run}
use Rattle.liquid_values.specs.Standing.{place_of}
use Rattle.liquid_tags.specs.Branches.{chosen, takes_value}
use Rattle.liquid_tags.specs.Nodes.{node_count}
use Rattle.liquid_tags.proofs.branches.case_part.Given as goal

abbrev pub invariant-loop-first : goal.invariant-loop-first
invariant-loop-first g l = record {
  same : g.L.Look.view l.look ≡ g.L.Look.view l.fn.look;
  rest : run (g.L.Look.view l.fn.look) (g.L.Look.trace l.fn.look) (chosen (takes_value (g.X.Excerpts.excerpts l.place.levels) l.assigned (plain l.value)) (place_of l.place) l.parts)
      ≡ run (g.L.Look.view l.look) (g.L.Look.trace l.look) (chosen (takes_value (g.X.Excerpts.excerpts l.place.levels) l.assigned (plain l.value)) (place_of l.place) l.rest);
}

abbrev pub decreases-loop-first : goal.decreases-loop-first
decreases-loop-first g l = node_count l.rest
