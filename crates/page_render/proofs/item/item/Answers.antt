use Rattle.std.proofs.Common.{◌≡◌, ◌∙◌, List, ℕ, Ok, ap, subst, sym}
use Rattle.std.proofs.lemmas.Result.{err_from_is_err_and}
use Rattle.site_base.specs.declared.faults.SiteFault.{SiteFault}
use Rattle.liquid_values.proofs.NextLaws.{finds_next, stops_next}
use Rattle.page_render.specs.Items.{own_text}
use Rattle.page_render.specs.Layouts.{laid_out}
use Rattle.read_record.proofs.CallLaws.{stops_bind}
use Rattle.read_record.proofs.QueryLaws.{run_gave}
use Rattle.read_record.specs.Answers.{Stops}
use Rattle.read_record.specs.Outcomes.{Page}
use Rattle.read_record.specs.Queries.{Give, Query, RanTo, bind, run}
use Rattle.page_render.proofs.item.item.Goals as goal

pub returns-in_err-output-clause-gives : goal.returns-in_err-output-clause-gives
returns-in_err-output-clause-gives g c =
    let n = c.args.name.now in
    let view = g.L.Look.view c.args.look.now in let t = g.L.Look.trace c.args.look.now in
    let other = g.L.Look.view c.own_text.new.look in let u = g.L.Look.trace c.own_text.new.look in let s = g.L.Look.trace c.laid_out.new.look in
    let own = c.in_ok-own_text.field-0 in let stop = c.in_err-output.field-0.0 in
    let page : List ℕ → List ℕ → Query SiteFault Page = λ own output. Give (record { content = own; output = output }) in
    let next : List ℕ → Query SiteFault Page = λ own. bind (laid_out n own) (page own) in
    let e = err_from_is_err_and c.from_residual-in_err-output.result c.from_residual-in_err-output.ensures.1 in
    rw (e.1, e.2)
    (stops_next view other t (own_text n) next own u c.in_ok-own_text.ensures.same c.in_ok-own_text.ensures.gives stop s
    (stops_bind other u (laid_out n own) (page own) stop s
    (subst (λ (x : List ℕ). Stops (run other u (laid_out n x)) stop s) c.in_ok-content.ensures c.in_err-output.ensures.gives)))

pub returns-clause-gives : goal.returns-clause-gives
returns-clause-gives g c =
    let n = c.args.name.now in
    let view = g.L.Look.view c.args.look.now in let t = g.L.Look.trace c.args.look.now in
    let other = g.L.Look.view c.own_text.new.look in let u = g.L.Look.trace c.own_text.new.look in let s = g.L.Look.trace c.laid_out.new.look in
    let own = c.in_ok-own_text.field-0 in let output = c.in_ok-output.output in
    let page : List ℕ → List ℕ → Page = λ own output. record { content = own; output = output } in
    let put : List ℕ → List ℕ → Query SiteFault Page = λ own output. Give (page own output) in
    let next : List ℕ → Query SiteFault Page = λ own. bind (laid_out n own) (put own) in
    let laid : run other u (laid_out n own) ≡ RanTo output s = subst (λ (x : List ℕ). run other u (laid_out n x) ≡ RanTo output s) c.in_ok-content.ensures c.in_ok-output.ensures.gives in
    let made = run_gave other u (laid_out n own) (put own) output s laid in
    finds_next view other t (own_text n) next own u c.in_ok-own_text.ensures.same c.in_ok-own_text.ensures.gives (Ok (page own output)) s made
    ∙ ap (λ (x : List ℕ). RanTo (page x output) s) (sym c.in_ok-content.ensures)
    ∙ ap (λ (x : List ℕ). RanTo (page c.in_ok-content.content x) s) (sym c.in_ok-into_file.ensures)
