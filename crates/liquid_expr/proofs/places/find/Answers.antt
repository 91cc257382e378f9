use Rattle.std.proofs.Common.{arith}
use Rattle.liquid_grammar.specs.Pieces.{begins}
use Rattle.liquid_expr.proofs.PlacesLaws.{place_is, place_on}
use Rattle.liquid_expr.proofs.places.find.Goals as goal

pub loop-i-preserved : goal.loop-i-preserved
loop-i-preserved c = record {
  within = omega arith;
  rest = place_on (begins c.args.mark.now) c.args.text.now c.args.at c.loop-i.i c.begins.result c.loop-i-test.true c.begins.ensures.as_std c.if-not-begins.true c.loop-i.invariant.rest;
}

pub returns-else-not-begins : goal.returns-else-not-begins
returns-else-not-begins c =
    place_is (begins c.args.mark.now) c.args.text.now c.args.at c.loop-i.i c.begins.result c.loop-i-test.true c.begins.ensures.as_std c.if-not-begins.false c.loop-i.invariant.rest
