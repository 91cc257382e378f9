use Rattle.std.proofs.Common.{arith}
use Rattle.std.proofs.lemmas.Str.{IsUtf8-past_char}
use Rattle.cm_links.proofs.Measuring.{count_step, too_long, short_end}
use Rattle.cm_links.proofs.label.is_short.Goals as goal

pub loop-c-preserved : goal.loop-c-preserved
loop-c-preserved c =
    let held = c.loop-c.invariant in
    let parts = c.in-Some.ensures.steps.0 in
    record {
      readable = IsUtf8-past_char _ _ c.in-Some._c held.readable parts;
      small = omega (arith, held.small, c.if-count-eq999.false);
      counted = count_step _ _ c.in-Some._c _ _ held.readable parts held.counted;
    }

pub returns-then-count-eq999 : goal.returns-then-count-eq999
returns-then-count-eq999 c = too_long _ _ c.in-Some._c c.loop-c.count _ c.loop-c.invariant.readable c.in-Some.ensures.steps.0 c.if-count-eq999.true c.loop-c.invariant.counted

pub returns : goal.returns
returns c = short_end _ c.loop-c.count _ c.in-None.ensures.steps.0.0 c.loop-c.invariant.small c.loop-c.invariant.counted
