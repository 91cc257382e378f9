use Rattle.liquid_expr.proofs.TokenLaws.{cut_at}
use Rattle.liquid_expr.proofs.token.head.Goals as goal

pub range-requires-clause-end_boundary : goal.range-requires-clause-end_boundary
range-requires-clause-end_boundary c = cut_at c.args.rest.now c.args.len c.utf8.rest c.requires.some c.requires.within c.requires.last

pub returns-clause-cut : goal.returns-clause-cut
returns-clause-cut c = λ u. cut_at c.args.rest.now c.args.len u c.requires.some c.requires.within c.requires.last
