use Rattle.std.proofs.Common.{◌≡◌, drop}
use Rattle.read_record.specs.Queries.{run}
use Rattle.liquid_values.specs.Standing.{place_of}
use Rattle.liquid_tags.specs.Elements as definitions
use Rattle.liquid_tags.proofs.elements.given_numbers.Given as goal

abbrev pub invariant-loop-part : goal.invariant-loop-part
invariant-loop-part g l = record {
  same : g.L.Look.view l.look ≡ g.L.Look.view l.fn.look;
  rest : run (g.L.Look.view l.fn.look) (g.L.Look.trace l.fn.look) (definitions.numbers (g.X.Excerpts.excerpts l.place.levels) (place_of l.place) l.assigned definitions.no_numbers l.parts)
      ≡ run (g.L.Look.view l.look) (g.L.Look.trace l.look) (definitions.numbers (g.X.Excerpts.excerpts l.place.levels) (place_of l.place) l.assigned l.numbers (drop l.part-index l.parts));
}
