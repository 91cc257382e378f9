use Rattle.std.proofs.Common.{◌≡◌, drop}
use Rattle.site_base.specs.View.{plain}
use Rattle.read_record.specs.Queries.{run}
use Rattle.liquid_values.specs.Standing.{place_of}
use Rattle.liquid_tags.specs.Branches.{equals_one}
use Rattle.liquid_tags.proofs.branches.equals_one.Given as goal

abbrev pub invariant-loop-each : goal.invariant-loop-each
invariant-loop-each g l = record {
  same : g.L.Look.view l.look ≡ g.L.Look.view l.fn.look;
  rest : run (g.L.Look.view l.fn.look) (g.L.Look.trace l.fn.look) (equals_one (g.X.Excerpts.excerpts l.place.levels) (place_of l.place) l.assigned (plain l.value) l.operands)
      ≡ run (g.L.Look.view l.look) (g.L.Look.trace l.look) (equals_one (g.X.Excerpts.excerpts l.place.levels) (place_of l.place) l.assigned (plain l.value) (drop l.each-index l.operands));
}
