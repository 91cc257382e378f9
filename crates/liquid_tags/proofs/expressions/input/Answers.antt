use Rattle.std.proofs.Common.{Bool, sym, subst}
use Rattle.std.specs.Prelude.{ℕ}
use Rattle.liquid_values.specs.Answers.{in_plain}
use Rattle.liquid_values.specs.Operands.{operand}
use Rattle.liquid_values.specs.Places.{Place}
use Rattle.liquid_values.specs.Standing.{place_of}
use Rattle.read_record.specs.Answers.{Finds}
use Rattle.read_record.specs.Queries.{run}
use Rattle.liquid_tags.specs.Expressions.{input_place}
use Rattle.liquid_tags.proofs.expressions.input.Goals as goal

pub returns-then-may_be_undefined-clause-gives : goal.returns-then-may_be_undefined-clause-gives
returns-then-may_be_undefined-clause-gives g c =
    let ex = g.X.Excerpts.excerpts c.args.place.now.levels in let p = place_of c.args.place.now in let vars = c.args.assigned.now in let e = c.args.each.now in
    let view = g.L.Look.view c.args.look.now in let t = g.L.Look.trace c.args.look.now in
    let r = in_plain c.operand.result in let s = g.L.Look.trace c.operand.new.look in
    subst (λ (b : Bool). Finds (run view t (operand ex (input_place b p) vars e)) r s) (sym c.if-may_be_undefined.true)
    (subst (λ (q : Place). Finds (run view t (operand ex q vars e)) r s) c.untested.ensures.at
    (subst (λ (n : ℕ). Finds (run view t (operand (g.X.Excerpts.excerpts n) (place_of c.untested.result) vars e)) r s) c.untested.ensures.levels c.operand.ensures.gives))
