use Rattle.liquid_values.specs.Answers.{found_of, in_plain}
use Rattle.liquid_values.specs.Names.{settled}
use Rattle.liquid_values.specs.Operands as operands
use Rattle.liquid_values.specs.Standing.{place_of}
use Rattle.liquid_values.proofs.NextLaws.{finds_next}
use Rattle.liquid_values.proofs.operands.operand.Goals as goal

pub returns-clause-gives : goal.returns-clause-gives
returns-clause-gives g c =
    let view = g.L.Look.view c.args.look.now in let t = g.L.Look.trace c.args.look.now in
    let other = g.L.Look.view c.found.new.look in let u = g.L.Look.trace c.found.new.look in
    finds_next view other t (operands.found (g.X.Excerpts.excerpts c.args.place.now.levels) (place_of c.args.place.now) c.args.assigned.now c.args.operand.now) (settled (place_of c.args.place.now))
    (found_of c.in_ok-found.found) u c.in_ok-found.ensures.same c.in_ok-found.ensures.gives (in_plain c.into_value.result) (g.L.Look.trace c.into_value.new.look) c.into_value.ensures.gives
