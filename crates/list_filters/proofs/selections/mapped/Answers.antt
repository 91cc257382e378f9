use Rattle.std.proofs.Common.{subst}
use Rattle.site_base.specs.Plain.{Items}
use Rattle.site_base.specs.View.{plain}
use Rattle.read_record.specs.Queries.{run}
use Rattle.filter_base.specs.Answers.{Finds}
use Rattle.filter_base.specs.Elements.{elements}
use Rattle.filter_base.specs.Properties.{properties}
use Rattle.filter_base.specs.Taken.{item_values}
use Rattle.filter_base.proofs.CallLaws.{after_made}
use Rattle.list_filters.proofs.selections.mapped.Goals as goal

pub returns-clause-gives : goal.returns-clause-gives
returns-clause-gives g c =
    let view = g.L.Look.view c.args.look.now in let t = g.L.Look.trace c.args.look.now in let s = g.L.Look.trace c.properties.new.look in
    after_made view t s (elements (plain c.args.input.now)) (item_values c.in_ok-elements.elements) (properties c.args.name.now) c.properties.result c.in_ok-elements.ensures
    (subst (λ (is : Items). Finds (run view t (properties c.args.name.now is)) c.properties.result s) c.as_slice.ensures c.properties.ensures.gives)
