use Rattle.std.proofs.Common.{arith}
use Rattle.site_text.proofs.Digits.{digit_more, mul_fits, add_fits, number_more}
use Rattle.site_text.proofs.numbers.number.Goals as goal

pub overflow_mul-value : goal.overflow_mul-value
overflow_mul-value c = omega (arith, mul_fits c.loop-i.value c.args.base c.loop-i.i c.requires.base (omega (arith, c.requires.few, c.loop-i-test.true)) c.loop-i.invariant.small)

pub overflow_add-value : goal.overflow_add-value
overflow_add-value c = omega (arith, add_fits c.loop-i.value c.args.base c.digit.result c.loop-i.i c.requires.base c.digit.ensures.small (omega (arith, c.requires.few, c.loop-i-test.true)) c.loop-i.invariant.small)

pub loop-i-preserved : goal.loop-i-preserved
loop-i-preserved c = record {
  within = omega (arith, c.loop-i-test.true);
  small = digit_more c.loop-i.value c.args.base c.digit.result c.loop-i.i c.requires.base c.digit.ensures.small c.loop-i.invariant.small;
  so_far = number_more c.args.base c.loop-i.value c.digit.result c.loop-i.i c.args.digits.now _ c.loop-i-test.true c.digit.ensures.value c.loop-i.invariant.so_far;
}
