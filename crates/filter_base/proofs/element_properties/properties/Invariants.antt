use Rattle.std.proofs.Common.{◌≡◌, drop}
use Rattle.site_base.specs.Plain.{onto}
use Rattle.site_base.specs.View.{items_of}
use Rattle.read_record.specs.Queries.{Give, bind, run}
use Rattle.filter_base.specs.Properties.{properties}
use Rattle.filter_base.proofs.element_properties.properties.Given as goal

abbrev pub invariant-loop-value : goal.invariant-loop-value
invariant-loop-value g l = record {
  same : g.L.Look.view l.look ≡ g.L.Look.view l.fn.look;
  rest : run (g.L.Look.view l.fn.look) (g.L.Look.trace l.fn.look) (properties l.name (items_of l.values))
      ≡ run (g.L.Look.view l.look) (g.L.Look.trace l.look) (bind (properties l.name (items_of (drop l.value-index l.values))) (λ ps. Give (onto l.found ps)));
}
