use Rattle.std.proofs.Common.{◌≡◌, ◌∙◌, Bool, true, false, None, Option, ap, sym, subst}
use Rattle.site_base.specs.Plain.{Plain}
use Rattle.site_base.specs.View.{plain}
use Rattle.site_base.specs.declared.faults.SiteFault.{SiteFault}
use Rattle.read_record.proofs.CallLaws.{finds_then}
use Rattle.read_record.proofs.QueryLaws.{run_gave}
use Rattle.read_record.specs.Answers.{Finds}
use Rattle.read_record.specs.Queries.{Query, Give, run}
use Rattle.liquid_values.specs.Standing.{place_of}
use Rattle.liquid_tags.specs.Conditions.{is_nil}
use Rattle.liquid_tags.specs.Expressions.{expression}
use Rattle.liquid_tags.specs.Tables as tables
use Rattle.liquid_tags.specs.declared.tables.Grid.{Grid}
use Rattle.liquid_tags.proofs.tables.table.Goals as goal

pub returns-then-is_nil-clause-gives : goal.returns-then-is_nil-clause-gives
returns-then-is_nil-clause-gives g c =
    let view = g.L.Look.view c.args.look.now in let t = g.L.Look.trace c.args.look.now in let u = g.L.Look.trace c.expression.new.look in
    let ex = g.X.Excerpts.excerpts c.args.place.now.levels in let p = place_of c.args.place.now in let vars = c.args.assigned.now in let tag = c.args.tag.now in
    let v : Plain = plain c.in_ok-value.value in
    let next : Bool → Query SiteFault (Option Grid) = λ b. elim b [ true ↦ Give None | false ↦ tables.filled ex p vars tag v ] in
    run_gave view t (expression ex p vars tag.list) (λ w. elim (is_nil w) as (λ _. Query SiteFault (Option Grid)) [ true ↦ Give None | false ↦ tables.filled ex p vars tag w ]) v u c.in_ok-value.ensures.gives
    ∙ ap (λ b. run view u (next b)) (sym c.is_nil.ensures ∙ c.if-is_nil.true)

pub returns-clause-gives : goal.returns-clause-gives
returns-clause-gives g c =
    let view = g.L.Look.view c.args.look.now in let t = g.L.Look.trace c.args.look.now in let u = g.L.Look.trace c.expression.new.look in let s = g.L.Look.trace c.filled.new.look in
    let ex = g.X.Excerpts.excerpts c.args.place.now.levels in let p = place_of c.args.place.now in let vars = c.args.assigned.now in let tag = c.args.tag.now in
    let v : Plain = plain c.in_ok-value.value in let made = c.filled.result in
    let next : Bool → Query SiteFault (Option Grid) = λ b. elim b [ true ↦ Give None | false ↦ tables.filled ex p vars tag v ] in
    finds_then view t (expression ex p vars tag.list) (λ w. elim (is_nil w) as (λ _. Query SiteFault (Option Grid)) [ true ↦ Give None | false ↦ tables.filled ex p vars tag w ]) v u made s c.in_ok-value.ensures.gives
    (subst (λ b. Finds (run view u (next b)) made s) (sym (sym c.is_nil.ensures ∙ c.if-is_nil.false))
    (subst (λ w. Finds (run w u (tables.filled ex p vars tag v)) made s) c.in_ok-value.ensures.same c.filled.ensures.gives))
