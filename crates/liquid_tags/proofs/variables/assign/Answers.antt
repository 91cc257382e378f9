use Rattle.std.proofs.Common.{◌∙◌, ap, sym}
use Rattle.site_base.specs.Plain.{Plain}
use Rattle.site_base.specs.View.{plain}
use Rattle.read_record.specs.Queries.{Give, RanTo}
use Rattle.read_record.proofs.QueryLaws.{run_gave}
use Rattle.liquid_values.specs.Standing.{place_of}
use Rattle.liquid_tags.specs.Expressions.{expression}
use Rattle.liquid_tags.specs.States.{assign}
use Rattle.liquid_tags.specs.declared.state.State.{State}
use Rattle.liquid_tags.proofs.variables.assign.Goals as goal

pub returns-clause-gives : goal.returns-clause-gives
returns-clause-gives g c =
    let ex = g.X.Excerpts.excerpts c.args.place.now.levels in let p = place_of c.args.place.now in let s = g.L.Look.trace c.expression.new.look in
    run_gave (g.L.Look.view c.args.look.now) (g.L.Look.trace c.args.look.now) (expression ex p c.args.state.now.assigned c.args.tag.now.value) (λ (v : Plain). Give (assign c.args.tag.now.name v c.args.state.now)) (plain c.in_ok-value.value) s c.in_ok-value.ensures.gives
    ∙ ap (λ (x : State). RanTo x s) (sym c.in_ok-assign.ensures)
