use Rattle.std.proofs.Common.{◌∙◌, ap, sym}
use Rattle.site_base.specs.Plain.{Items}
use Rattle.site_base.specs.View.{items_of}
use Rattle.read_record.specs.Queries.{Give, bind, run}
use Rattle.read_record.proofs.QueryLaws.{run_gave}
use Rattle.filter_base.specs.Keyed.{source}
use Rattle.filter_base.specs.Properties.{properties}
use Rattle.filter_base.specs.Taken.{item_values}
use Rattle.filter_base.proofs.keyed.Source.with_properties.Goals as goal

pub returns-clause-gives : goal.returns-clause-gives
returns-clause-gives g c =
    let view = g.L.Look.view c.args.look.now in let t = g.L.Look.trace c.args.look.now in
    let is = item_values c.args.elements in
    ap (λ (ks : Items). run view t (bind (properties c.args.name.now ks) (λ ks. Give (source is ks)))) (sym c.as_slice.ensures)
    ∙ run_gave view t (properties c.args.name.now (items_of c.as_slice.result.now)) (λ ks. Give (source is ks)) c.in_ok-keys.keys (g.L.Look.trace c.properties.new.look) c.in_ok-keys.ensures.gives
