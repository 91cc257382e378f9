use Rattle.std.proofs.Common.{subst, List, ℕ}
use Rattle.liquid_grammar.specs.Operands.{Operand}
use Rattle.liquid_values.specs.Answers.{Advances}
use Rattle.liquid_values.specs.Standing.{place_of}
use Rattle.read_record.specs.Queries.{run}
use Rattle.liquid_values.proofs.NextLaws.{advances_next}
use Rattle.liquid_tags.specs.Variables.{group_name, next_of}
use Rattle.liquid_tags.proofs.variables.cycle.Goals as goal

pub returns-clause-gives : goal.returns-clause-gives
returns-clause-gives g c =
    let ex = g.X.Excerpts.excerpts c.args.place.now.levels in let p = place_of c.args.place.now in
    let view = g.L.Look.view c.args.look.now in let t = g.L.Look.trace c.args.look.now in
    let other = g.L.Look.view c.group_name.new.look in let u = g.L.Look.trace c.group_name.new.look in let s = g.L.Look.trace c.print_next.new.look in
    advances_next view other t (group_name ex p c.args.state.now.assigned c.args.tag.now.group c.args.text.now) (λ (x : List ℕ). next_of ex p c.args.tag.now.values x c.args.state.now) c.in_ok-group.group u
    c.in_ok-group.ensures.same c.in_ok-group.ensures.gives c.print_next.result c.print_next.new.state s
    (subst (λ (es : List Operand). Advances (run other u (next_of ex p es c.in_ok-group.group c.args.state.now)) c.print_next.result c.print_next.new.state s) c.as_slice.ensures c.print_next.ensures.gives)
