use Rattle.std.proofs.Common.{◌≡◌, ◌∙◌, ℕ, List, ap, subst, sym}
use Rattle.site_base.specs.Plain.{hash}
use Rattle.site_base.specs.declared.faults.SiteFault.{SiteFault}
use Rattle.liquid_eval.specs.Texts.{text_evaluation}
use Rattle.liquid_values.specs.Places.{Place, at_start, of_layout}
use Rattle.page_render.specs.Layouts.{once_around, over}
use Rattle.page_render.specs.declared.around.Around.{Around}
use Rattle.read_record.proofs.QueryLaws.{run_gave}
use Rattle.read_record.specs.Queries.{Query, Give, RanTo, run}
use Rattle.page_render.proofs.layouts.in_found.Goals as goal

pub returns-clause-gives : goal.returns-clause-gives
returns-clause-gives g c =
    let n = c.args.item.now in let a = c.args.around in let l = c.args.layout.now in
    let view = g.L.Look.view c.args.look.now in let t = g.L.Look.trace c.args.look.now in let s = g.L.Look.trace c.evaluate_shared.new.look in
    let variables = c.in_ok-share-3.ensures ∙ c.in_ok-variables.ensures in
    let place : at_start l.path n (of_layout c.in_ok-share.field-0 c.in_ok-share-2.field-0 (hash c.in_ok-share-3.field-0)) ≡ at_start l.path n (of_layout c.args.own.now a.text (hash (over a.variables l.variables))) =
    λ i. at_start l.path n (of_layout (c.in_ok-share.ensures i) (c.in_ok-share-2.ensures i) (hash (variables i))) in
    let gave = subst (λ (p : Place). run view t (text_evaluation p l.body) ≡ RanTo c.in_ok-made.made s) place c.in_ok-made.ensures.gives in
    let next : List ℕ → Query SiteFault Around = λ made. Give (once_around a c.args.name.now l made) in
    run_gave view t (text_evaluation (at_start l.path n (of_layout c.args.own.now a.text (hash (over a.variables l.variables)))) l.body) next c.in_ok-made.made s gave
    ∙ ap (λ (b : Around). RanTo b s) (sym c.in_ok-once_around.ensures)
