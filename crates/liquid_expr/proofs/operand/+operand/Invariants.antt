use Rattle.std.proofs.Common.{◌≡◌, ◌+◌, ◌-◌, ◌*◌, ◌≤◌, drop}
use Rattle.liquid_grammar.specs.Readings.{after, many}
use Rattle.liquid_grammar.specs.Expressions.{link, operand_inside}
use Rattle.liquid_expr.specs.Tokens.{tokens_of, count}
use Rattle.liquid_expr.specs.Steps.{link_steps, codes_of, added}
use Rattle.liquid_expr.proofs.operand.+operand.Given as goal

abbrev pub decreases-operand : goal.decreases-operand
decreases-operand l = 4 * l.depth + 3

abbrev pub decreases-path : goal.decreases-path
decreases-path l = 4 * l.depth + 2

abbrev pub decreases-next_link : goal.decreases-next_link
decreases-next_link l = 4 * l.depth + 1

abbrev pub decreases-bracket : goal.decreases-bracket
decreases-bracket l = 4 * l.depth

abbrev pub decreases-range : goal.decreases-range
decreases-range l = 4 * l.depth

abbrev pub invariant-path-loop-len : goal.invariant-path-loop-len
invariant-path-loop-len l = record {
  within : l.used ≤ count l.tokens;
  told : added (codes_of link_steps) l.steps.items (after l.used (many (link (operand_inside l.depth)) (drop l.used (tokens_of l.tokens)))) ≡ added (codes_of link_steps) l.fn.steps.items (many (link (operand_inside l.depth)) (tokens_of l.tokens));
}

abbrev pub decreases-path-loop-len : goal.decreases-path-loop-len
decreases-path-loop-len l = count l.tokens - l.used
