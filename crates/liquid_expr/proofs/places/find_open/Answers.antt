use Rattle.std.proofs.Common.{sym, ◌∙◌}
use Rattle.liquid_expr.proofs.BracePlaces.{skips_on}
use Rattle.liquid_expr.proofs.places.find_open.Goals as goal

pub loop-i-preserved : goal.loop-i-preserved
loop-i-preserved c =
    let on = skips_on c.args.text.now c.tail-rest.result.now c.tail.result.now c.loop-i.i c.brace_place.result c.loop-i-test.true c.tail-rest.ensures (sym c.opens.ensures ∙ c.if-opens.false) c.tail.ensures c.brace_place.ensures.within c.brace_place.ensures.skips c.loop-i.invariant.rest in
    record { within = on.0; rest = on.1 }
