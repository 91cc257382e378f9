use Rattle.std.proofs.Common.{◌∙◌, ap, sym, ◌∷◌}
use Rattle.site_base.specs.Plain.{Plain}
use Rattle.site_base.specs.View.{plain}
use Rattle.read_record.specs.Queries.{Give, RanTo, run}
use Rattle.read_record.proofs.QueryLaws.{run_gave}
use Rattle.liquid_values.specs.Answers.{found_of}
use Rattle.liquid_values.specs.Names.{settled, value}
use Rattle.liquid_values.specs.OperandSteps.{Standing, first_end_step, stack_of}
use Rattle.liquid_values.specs.Standing.{place_of}
use Rattle.liquid_values.proofs.operands.take_first_end.Goals as goal

pub returns-clause-gives : goal.returns-clause-gives
returns-clause-gives g c =
    let view = g.L.Look.view c.args.look.now in let t = g.L.Look.trace c.args.look.now in let s = g.L.Look.trace c.into_value.new.look in
    let p = place_of c.args.place.now in let rest : Standing = stack_of c.pop.new.self in let f = found_of c.in-Some.found in
    ap (λ st. run view t (first_end_step p st)) c.in-Some.ensures
    ∙ run_gave view t (settled p f) (λ (v : Plain). Give (value v ∷ rest)) (plain c.in_ok-value.value) s c.in_ok-value.ensures.gives
    ∙ ap (λ st. RanTo st s) (sym c.in_ok-push.ensures)
