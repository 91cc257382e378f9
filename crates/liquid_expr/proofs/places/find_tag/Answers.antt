use Rattle.std.proofs.Common.{arith}
use Rattle.liquid_grammar.specs.Pieces.{is_tag}
use Rattle.liquid_expr.proofs.PlacesLaws.{place_on}
use Rattle.liquid_expr.proofs.places.find_tag.Goals as goal

pub loop-i-preserved : goal.loop-i-preserved
loop-i-preserved c = record {
  within = omega arith;
  rest = place_on (is_tag c.args.word.now) c.args.text.now c.args.at c.loop-i.i c.is_tag.result c.loop-i-test.true c.is_tag.ensures c.if-not-is_tag.true c.loop-i.invariant.rest;
}
