use Rattle.std.proofs.Common.{◌≡◌, drop}
use Rattle.site_base.specs.Plain.{no_pairs}
use Rattle.read_record.specs.Queries.{run}
use Rattle.liquid_values.specs.Standing.{place_of}
use Rattle.liquid_tags.specs.Includes as includes
use Rattle.liquid_tags.proofs.includes.parameters.Given as goal

abbrev pub invariant-loop-param : goal.invariant-loop-param
invariant-loop-param g l = record {
  same : g.L.Look.view l.look ≡ g.L.Look.view l.fn.look;
  rest : run (g.L.Look.view l.fn.look) (g.L.Look.trace l.fn.look) (includes.parameters (g.X.Excerpts.excerpts l.place.levels) (place_of l.place) l.assigned no_pairs l.params)
      ≡ run (g.L.Look.view l.look) (g.L.Look.trace l.look) (includes.parameters (g.X.Excerpts.excerpts l.place.levels) (place_of l.place) l.assigned l.made (drop l.param-index l.params));
}
