use Rattle.std.proofs.Common.{Some, sym, ap, ◌∙◌}
use Rattle.std.proofs.lemmas.Result.{err_from_is_err_and}
use Rattle.liquid_grammar.specs.Operands.{steps_of}
use Rattle.liquid_grammar.specs.Expressions.{operand, operand_in}
use Rattle.liquid_expr.specs.Tokens.{tokens_of}
use Rattle.liquid_expr.specs.Steps.{added}
use Rattle.liquid_expr.proofs.Wholes.{stop_is, made_of_operand, operand_made}
use Rattle.liquid_expr.proofs.expression.OperandFromTokens.read.Goals as goal

pub returns-in_err-len-clause-value : goal.returns-in_err-len-clause-value
unfolding operand
returns-in_err-len-clause-value c =
    let e = err_from_is_err_and c.from_residual-in_err-len.result c.from_residual-in_err-len.ensures.1 in
    rw (e.1, e.2) (stop_is steps_of c.in_ok-steps.steps.items c.operand.new.steps.items (operand_in 100 (tokens_of c.args.tokens)) c.in_err-len.field-0.0 c.in_err-len.ensures.value)

pub from_steps-requires : goal.from_steps-requires
from_steps-requires c =
    made_of_operand (operand_in 100 (tokens_of c.args.tokens)) c.operand.new.steps.items c.in_ok-len.len (ap (λ l. added steps_of l (operand_in 100 (tokens_of c.args.tokens))) (sym c.in_ok-steps.ensures.items) ∙ c.in_ok-len.ensures.value)

pub returns-clause-value : goal.returns-clause-value
unfolding operand
returns-clause-value c =
    operand_made (operand_in 100 (tokens_of c.args.tokens)) c.operand.new.steps.items c.in_ok-len.len (ap (λ l. added steps_of l (operand_in 100 (tokens_of c.args.tokens))) (sym c.in_ok-steps.ensures.items) ∙ c.in_ok-len.ensures.value)
    ∙ ap (λ x. Some (x, c.in_ok-len.len)) (sym c.from_steps.ensures)
