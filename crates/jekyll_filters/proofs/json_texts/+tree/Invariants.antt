use Rattle.std.proofs.Common.{◌≡◌, [], false, map, drop}
use Rattle.site_base.specs.Plain.{weight, items_weight, pairs_weight}
use Rattle.site_base.specs.View.{plain, items_of, pairs_of}
use Rattle.serde_json.specs.Data.{no_members}
use Rattle.serde_json.specs.View.{view, items_view, members_view}
use Rattle.serde_json.specs.Written.{items_have_float, members_have_float}
use Rattle.read_record.specs.Queries.{run}
use Rattle.jekyll_filters.specs.JsonTexts.{items_data, pairs_data}
use Rattle.jekyll_filters.proofs.json_texts.+tree.Given as goal

abbrev pub decreases-data_of : goal.decreases-data_of
decreases-data_of g l = weight (plain l.value.now)

abbrev pub decreases-items_data : goal.decreases-items_data
decreases-items_data g l = items_weight (items_of l.values.now)

abbrev pub decreases-pairs_data : goal.decreases-pairs_data
decreases-pairs_data g l = pairs_weight (pairs_of l.pairs.now)

abbrev pub invariant-items_data-loop-value : goal.invariant-items_data-loop-value
invariant-items_data-loop-value g l = record {
  same : g.L.Look.view l.look ≡ g.L.Look.view l.fn.look;
  rest : run (g.L.Look.view l.fn.look) (g.L.Look.trace l.fn.look) (items_data (items_of l.values) [])
      ≡ run (g.L.Look.view l.look) (g.L.Look.trace l.look) (items_data (items_of (drop l.value-index l.values)) (map view l.made.items));
  whole : items_have_float (items_view l.made.items) ≡ false;
}

abbrev pub invariant-pairs_data-loop-pair : goal.invariant-pairs_data-loop-pair
invariant-pairs_data-loop-pair g l = record {
  same : g.L.Look.view l.look ≡ g.L.Look.view l.fn.look;
  rest : run (g.L.Look.view l.fn.look) (g.L.Look.trace l.fn.look) (pairs_data (pairs_of l.pairs) no_members)
      ≡ run (g.L.Look.view l.look) (g.L.Look.trace l.look) (pairs_data (pairs_of (drop l.pair-index l.pairs)) (members_view l.made.entries));
  whole : members_have_float (members_view l.made.entries) ≡ false;
}
