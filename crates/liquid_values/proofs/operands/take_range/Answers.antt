use Rattle.std.proofs.Common.{◌∙◌, ap, sym, ◌∷◌}
use Rattle.read_record.specs.Queries.{Give, RanTo, run}
use Rattle.read_record.proofs.QueryLaws.{run_gave}
use Rattle.liquid_values.specs.Answers.{found_of}
use Rattle.liquid_values.specs.Names.{Found}
use Rattle.liquid_values.specs.OperandSteps.{Standing, range_found, range_step, stack_of}
use Rattle.liquid_values.specs.Standing.{place_of}
use Rattle.liquid_values.proofs.operands.take_range.Goals as goal

pub returns-clause-gives : goal.returns-clause-gives
returns-clause-gives g c =
    let view = g.L.Look.view c.args.look.now in let t = g.L.Look.trace c.args.look.now in let s = g.L.Look.trace c.range_found.new.look in
    let p = place_of c.args.place.now in
    let rest : Standing = stack_of c.pop-2.new.self in let a = found_of c.in-Some-pop.first in let b = found_of c.in-Some.last in
    ap (λ st. run view t (range_step p st)) (c.in-Some.ensures ∙ ap (λ (st : Standing). b ∷ st) c.in-Some-pop.ensures)
    ∙ run_gave view t (range_found p a b) (λ (h : Found). Give (h ∷ rest)) (found_of c.in_ok-range.range) s c.in_ok-range.ensures.gives
    ∙ ap (λ st. RanTo st s) (sym c.in_ok-push-2.ensures)
