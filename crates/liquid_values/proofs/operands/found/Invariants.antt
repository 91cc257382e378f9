use Rattle.std.proofs.Common.{◌≡◌, drop}
use Rattle.read_record.specs.Queries.{run}
use Rattle.liquid_values.specs.Operands as operands
use Rattle.liquid_values.specs.OperandSteps.{stack_of, last_found}
use Rattle.liquid_values.specs.Standing.{place_of}
use Rattle.liquid_values.proofs.operands.found.Given as goal

abbrev pub invariant-loop-step : goal.invariant-loop-step
invariant-loop-step g l = record {
  same : g.L.Look.view l.look ≡ g.L.Look.view l.fn.look;
  rest : run (g.L.Look.view l.fn.look) (g.L.Look.trace l.fn.look) (operands.found (g.X.Excerpts.excerpts l.place.levels) (place_of l.place) l.assigned l.operand)
      ≡ run (g.L.Look.view l.look) (g.L.Look.trace l.look) (last_found (g.X.Excerpts.excerpts l.place.levels) (place_of l.place) l.assigned (drop l.step-index l.step-items) (stack_of l.stack));
}
