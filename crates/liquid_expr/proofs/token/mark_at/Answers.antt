use Rattle.std.proofs.Common.{arith}
use Rattle.liquid_expr.proofs.TokenLaws.{cut_at, short_found}
use Rattle.liquid_expr.proofs.token.mark_at.Goals as goal

pub returns-in-Some-clause-fits : goal.returns-in-Some-clause-fits
returns-in-Some-clause-fits c = record {
  some = omega arith;
  within = omega arith;
  cut = λ u. cut_at c.args.bytes.now 2 u (omega arith) (omega arith) c.in-Some.ensures.ascii;
}

pub returns-in-None-clause-fits : goal.returns-in-None-clause-fits
returns-in-None-clause-fits c = short_found c.args.bytes.now c.short_at-in-None.result (omega arith) c.short_at-in-None.ensures.len
