use Rattle.std.proofs.Common.{subst, List}
use Rattle.site_base.specs.Plain.{Plain}
use Rattle.site_base.specs.View.{plain}
use Rattle.liquid_grammar.specs.declared.expression.Filter.{Filter}
use Rattle.liquid_values.specs.Answers.{in_plain}
use Rattle.liquid_values.specs.Operands.{operand}
use Rattle.liquid_values.specs.Standing.{place_of}
use Rattle.read_record.specs.Answers.{Finds}
use Rattle.read_record.specs.Queries.{run}
use Rattle.liquid_values.proofs.NextLaws.{finds_next}
use Rattle.liquid_tags.specs.Expressions.{filtered, input_place}
use Rattle.liquid_tags.proofs.expressions.valued.Goals as goal

pub returns-clause-gives : goal.returns-clause-gives
returns-clause-gives g c =
    let ex = g.X.Excerpts.excerpts c.args.place.now.levels in let p = place_of c.args.place.now in let vars = c.args.assigned.now in
    let view = g.L.Look.view c.args.look.now in let t = g.L.Look.trace c.args.look.now in
    let other = g.L.Look.view c.input.new.look in let u = g.L.Look.trace c.input.new.look in
    let r = in_plain c.filtered.result in let s = g.L.Look.trace c.filtered.new.look in
    finds_next view other t (operand ex (input_place c.args.may_be_undefined p) vars c.args.expr.now.operand) (λ (v : Plain). filtered ex p vars c.args.expr.now.filters v) (plain c.in_ok-value.value) u
    c.in_ok-value.ensures.same c.in_ok-value.ensures.gives r s
    (subst (λ (fs : List Filter). Finds (run other u (filtered ex p vars fs (plain c.in_ok-value.value))) r s) c.as_slice.ensures c.filtered.ensures.gives)
