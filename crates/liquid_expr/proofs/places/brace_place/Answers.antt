use Rattle.std.proofs.Common.{length, arith}
use Rattle.liquid_expr.proofs.BracePlaces.{skips}
use Rattle.liquid_expr.proofs.places.brace_place.Goals as goal

pub returns-in-Some-clause-skips : goal.returns-in-Some-clause-skips
returns-in-Some-clause-skips c = skips c.args.text.now c.in-Some.place (omega (arith, c.in-Some.ensures.0.high)) c.in-Some.ensures.0.before

pub returns-in-None-clause-skips : goal.returns-in-None-clause-skips
returns-in-None-clause-skips c = skips c.args.text.now (length c.args.text.now) (omega arith) c.in-None.ensures
