use Rattle.std.proofs.Common.{◌∙◌, ap, sym, List, ℕ}
use Rattle.site_base.specs.Plain.{Plain}
use Rattle.site_base.specs.Values.{value_text}
use Rattle.site_base.specs.View.{plain}
use Rattle.read_record.specs.Queries.{Give, RanTo}
use Rattle.read_record.proofs.QueryLaws.{run_gave}
use Rattle.liquid_values.specs.Standing.{place_of}
use Rattle.liquid_tags.specs.Expressions.{expression}
use Rattle.liquid_tags.proofs.file_names.expression_text.Goals as goal

pub returns-clause-gives : goal.returns-clause-gives
returns-clause-gives g c =
    let ex = g.X.Excerpts.excerpts c.args.place.now.levels in let p = place_of c.args.place.now in let vars = c.args.assigned.now in
    let view = g.L.Look.view c.args.look.now in let t = g.L.Look.trace c.args.look.now in
    let s = g.L.Look.trace c.expression.new.look in
    run_gave view t (expression ex p vars c.args.expr.now) (λ (v : Plain). Give (value_text v)) (plain c.in_ok-value.value) s c.in_ok-value.ensures.gives ∙ ap (λ (x : List ℕ). RanTo x s) (sym c.in_ok-value_text.ensures)
