use Rattle.std.proofs.Common.{◌≡◌, drop}
use Rattle.std.specs.String.{string_bytes}
use Rattle.read_record.specs.Queries.{run}
use Rattle.liquid_values.specs.Standing.{place_of}
use Rattle.liquid_tags.specs.FileNames.{name_text, name_behind}
use Rattle.liquid_tags.proofs.file_names.name_text.Given as goal

abbrev pub invariant-loop-part : goal.invariant-loop-part
invariant-loop-part g l = record {
  same : g.L.Look.view l.look ≡ g.L.Look.view l.fn.look;
  rest : run (g.L.Look.view l.fn.look) (g.L.Look.trace l.fn.look) (name_text (g.X.Excerpts.excerpts l.place.levels) (place_of l.place) l.assigned l.parts)
      ≡ run (g.L.Look.view l.look) (g.L.Look.trace l.look) (name_behind (g.X.Excerpts.excerpts l.place.levels) (place_of l.place) l.assigned (string_bytes l.name) (drop l.part-index l.parts));
}
