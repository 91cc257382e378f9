use Rattle.std.proofs.Common.{◌≡◌, drop}
use Rattle.site_base.specs.View.{plain}
use Rattle.read_record.specs.Queries.{run}
use Rattle.liquid_values.specs.Standing.{place_of}
use Rattle.liquid_tags.specs.Expressions.{filtered}
use Rattle.liquid_tags.proofs.expressions.filtered.Given as goal

abbrev pub invariant-loop-filter : goal.invariant-loop-filter
invariant-loop-filter g l = record {
  same : g.L.Look.view l.look ≡ g.L.Look.view l.fn.look;
  rest : run (g.L.Look.view l.fn.look) (g.L.Look.trace l.fn.look) (filtered (g.X.Excerpts.excerpts l.place.levels) (place_of l.place) l.assigned l.filters (plain l.fn.input))
      ≡ run (g.L.Look.view l.look) (g.L.Look.trace l.look) (filtered (g.X.Excerpts.excerpts l.place.levels) (place_of l.place) l.assigned (drop l.filter-index l.filters) (plain l.value));
}
