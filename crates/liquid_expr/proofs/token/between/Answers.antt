use Rattle.std.proofs.Common.{arith, ◌≡◌, ◌+◌, ◌-◌, ◌<◌, get_or, subst}
use Rattle.liquid_expr.proofs.TokenLaws.{cut_at}
use Rattle.liquid_expr.proofs.token.between.Goals as goal

pub range-requires-clause-start_boundary : goal.range-requires-clause-start_boundary
range-requires-clause-start_boundary c = λ _. cut_at c.args.rest.now 1 c.utf8.rest (omega arith) (omega arith) c.requires.first

pub returns-clause-cut : goal.returns-clause-cut
returns-clause-cut c =
    let e : c.args.end ≡ c.args.end + 1 - 1 = omega arith in
    λ u. cut_at c.args.rest.now (c.args.end + 1) u (omega arith) (omega arith) (subst (λ i. get_or c.args.rest.now i 0 < 128) e c.requires.last)
