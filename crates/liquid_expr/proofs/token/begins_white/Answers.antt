use Rattle.std.proofs.Common.{arith, get_or, sym, ap, ◌∙◌}
use Rattle.liquid_grammar.specs.Pieces.{is_white}
use Rattle.liquid_expr.proofs.TokenLaws.{cut_at, white_ascii}
use Rattle.liquid_expr.proofs.token.begins_white.Goals as goal

pub returns-clause-cut : goal.returns-clause-cut
returns-clause-cut c =
    let rest = c.args.rest.now in
    λ white. λ u. cut_at rest 1 u (omega arith) (omega arith)
    (white_ascii (get_or rest 0 0) (ap (λ xs. is_white (get_or xs 0 0)) (sym c.as_bytes.ensures.value) ∙ sym c.is_white.ensures ∙ white))
