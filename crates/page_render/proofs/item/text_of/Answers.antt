use Rattle.std.proofs.Common.{List, ℕ}
use Rattle.site_base.specs.declared.faults.SiteFault.{SiteFault}
use Rattle.read_record.specs.Queries.{Query}
use Rattle.liquid_eval.specs.Texts.{conversion, text_evaluation}
use Rattle.liquid_values.proofs.NextLaws.{finds_next}
use Rattle.liquid_values.specs.Places.{at_start, of_body}
use Rattle.page_render.proofs.item.text_of.Goals as goal

pub returns-clause-gives : goal.returns-clause-gives
returns-clause-gives g c =
    let n = c.args.name.now in
    let view = g.L.Look.view c.args.look.now in let t = g.L.Look.trace c.args.look.now in
    let other = g.L.Look.view c.evaluate_text.new.look in let u = g.L.Look.trace c.evaluate_text.new.look in let next : List ℕ → Query SiteFault (List ℕ) = λ made. conversion n made in
    finds_next view other t (text_evaluation (at_start n.path n of_body) c.args.source.now) next c.in_ok-text.text u c.in_ok-text.ensures.same c.in_ok-text.ensures.gives
    c.convert.result (g.L.Look.trace c.convert.new.look) c.convert.ensures.gives
