use Rattle.std.proofs.Common.{◌∙◌, ap, sym, ◌∷◌}
use Rattle.read_record.specs.Queries.{Give, RanTo}
use Rattle.read_record.proofs.QueryLaws.{run_gave}
use Rattle.liquid_values.specs.Answers.{found_of}
use Rattle.liquid_values.specs.Names.{Found, named}
use Rattle.liquid_values.specs.OperandSteps.{Standing, stack_of}
use Rattle.liquid_values.specs.Standing.{place_of}
use Rattle.liquid_values.proofs.operands.take_variable.Goals as goal

pub returns-clause-gives : goal.returns-clause-gives
returns-clause-gives g c =
    let s = g.L.Look.trace c.named.new.look in let rest : Standing = stack_of c.args.stack.now in
    run_gave (g.L.Look.view c.args.look.now) (g.L.Look.trace c.args.look.now) (named (place_of c.args.place.now) c.args.assigned.now c.args.name.now) (λ (h : Found). Give (h ∷ rest)) (found_of c.in_ok-found.found) s c.in_ok-found.ensures.gives
    ∙ ap (λ st. RanTo st s) (sym c.in_ok-push.ensures)
