use Rattle.std.proofs.Common.{◌∙◌, ap, sym, refl, arith, ◌+◌}
use Rattle.site_base.specs.Plain.{Items}
use Rattle.site_base.specs.View.{plain}
use Rattle.read_record.specs.Queries.{run}
use Rattle.filter_base.specs.Properties.{property}
use Rattle.filter_base.proofs.EachLaws.{left, each_first, each_more, each_last}
use Rattle.filter_base.proofs.element_properties.properties.Goals as goal

pub loop-value-init : goal.loop-value-init
loop-value-init g c =
    let view = g.L.Look.view c.args.look.now in let t = g.L.Look.trace c.args.look.now in
    let ask = property c.args.name.now in let vs = c.args.values.now in
    record {
      same = refl;
      rest = ap (run view t) (sym (each_first ask vs) ∙ ap (λ (found : Items). left ask found vs 0) (sym c.in_ok-found.ensures));
    }

pub loop-value-preserved : goal.loop-value-preserved
loop-value-preserved g c =
    let view = g.L.Look.view c.loop-value.look in let t = g.L.Look.trace c.loop-value.look in let s = g.L.Look.trace c.property.new.look in
    let ask = property c.args.name.now in let vs = c.args.values.now in let i = c.loop-value.value-index in
    let more = each_more view t s ask c.loop-value.found vs i c.value-item.result (plain c.in_ok-property.field-0) c.loop-value-test.true c.value-item.is c.in_ok-property.ensures.gives in
    record {
      same = c.in_ok-property.ensures.same ∙ c.loop-value.invariant.same;
      rest = c.loop-value.invariant.rest ∙ more ∙ ap (λ (found : Items). run view s (left ask found vs (i + 1))) (sym c.in_ok-push.ensures.ok)
          ∙ ap (λ v. run v s (left ask c.push.new.self vs (i + 1))) (sym c.in_ok-property.ensures.same);
    }

pub returns-clause-gives : goal.returns-clause-gives
returns-clause-gives g c =
    c.loop-value.invariant.rest ∙ ap (run (g.L.Look.view c.loop-value.look) (g.L.Look.trace c.loop-value.look)) (each_last (property c.args.name.now) c.loop-value.found c.args.values.now c.loop-value.value-index (omega arith))
