use Rattle.std.proofs.Common.{◌≡◌, drop}
use Rattle.read_record.specs.Queries.{run}
use Rattle.liquid_values.specs.Standing.{place_of}
use Rattle.liquid_tags.specs.Conditions as conditions
use Rattle.liquid_tags.specs.Conditions.{tests}
use Rattle.liquid_tags.proofs.conditions.condition.Given as goal

abbrev pub invariant-loop-joined : goal.invariant-loop-joined
invariant-loop-joined g l = record {
  same : g.L.Look.view l.look ≡ g.L.Look.view l.fn.look;
  rest : run (g.L.Look.view l.fn.look) (g.L.Look.trace l.fn.look) (conditions.condition (g.X.Excerpts.excerpts l.place.levels) (place_of l.place) l.assigned l.condition)
      ≡ run (g.L.Look.view l.look) (g.L.Look.trace l.look) (tests (g.X.Excerpts.excerpts l.place.levels) (place_of l.place) l.assigned l.current (drop l.joined-index l.joined-items));
}
