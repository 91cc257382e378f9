use Rattle.std.proofs.Common.{◌∙◌, ap, sym, ◌∷◌}
use Rattle.read_record.specs.Queries.{Give, RanTo, run}
use Rattle.read_record.proofs.QueryLaws.{run_gave}
use Rattle.liquid_values.specs.Answers.{found_of}
use Rattle.liquid_values.specs.Names.{Found}
use Rattle.liquid_values.specs.Operands.{index_found}
use Rattle.liquid_values.specs.OperandSteps.{Standing, index_step, stack_of}
use Rattle.liquid_values.specs.Standing.{place_of}
use Rattle.liquid_values.proofs.operands.take_index.Goals as goal

pub returns-clause-gives : goal.returns-clause-gives
returns-clause-gives g c =
    let view = g.L.Look.view c.args.look.now in let t = g.L.Look.trace c.args.look.now in let s = g.L.Look.trace c.index_found.new.look in
    let ex = g.X.Excerpts.excerpts c.args.place.now.levels in let p = place_of c.args.place.now in
    let rest : Standing = stack_of c.pop-2.new.self in let f = found_of c.in-Some-pop.found in let x = found_of c.in-Some.index in
    ap (λ st. run view t (index_step ex p st)) (c.in-Some.ensures ∙ ap (λ (st : Standing). x ∷ st) c.in-Some-pop.ensures)
    ∙ run_gave view t (index_found ex p f x) (λ (h : Found). Give (h ∷ rest)) (found_of c.in_ok-found.found) s c.in_ok-found.ensures.gives
    ∙ ap (λ st. RanTo st s) (sym c.in_ok-push-2.ensures)
