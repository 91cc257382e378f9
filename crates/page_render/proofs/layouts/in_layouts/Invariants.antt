use Rattle.std.proofs.Common.{◌≡◌}
use Rattle.read_record.specs.Queries.{run}
use Rattle.page_render.specs.Layouts.{in_layouts, most_layouts}
use Rattle.page_render.proofs.layouts.in_layouts.Given as goal

abbrev pub invariant-loop-left : goal.invariant-loop-left
invariant-loop-left g l = record {
  same : g.L.Look.view l.look ≡ g.L.Look.view l.fn.look;
  rest : run (g.L.Look.view l.fn.look) (g.L.Look.trace l.fn.look) (in_layouts l.item l.own most_layouts l.fn.bare)
      ≡ run (g.L.Look.view l.look) (g.L.Look.trace l.look) (in_layouts l.item l.own l.left l.around);
}

abbrev pub decreases-loop-left : goal.decreases-loop-left
decreases-loop-left g l = l.left
