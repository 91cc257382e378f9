use Rattle.std.proofs.Common.{sym, ◌∙◌}
use Rattle.liquid_expr.proofs.PlaceLaws.{true_false, no_token}
use Rattle.liquid_expr.proofs.tokens.text_from.Goals as goal

pub returns-else-is_char_boundary : goal.returns-else-is_char_boundary
returns-else-is_char_boundary c =
    sym (no_token c.args.text.now c.args.place (λ cut. true_false (sym (c.is_char_boundary.ensures.test.1 cut) ∙ c.if-is_char_boundary.false)))
