use Rattle.std.proofs.Common.{arith}
use Rattle.cm_containers.specs.declared.kinds.Container.TheVariants.{Quote}
use Rattle.cm_blocks.proofs.ClosingLaws.{closes_all, closes_first, closes_one}
use Rattle.cm_blocks.proofs.walk.push_ends.Goals as goal

pub loop-i-init : goal.loop-i-init
loop-i-init c = record { within = omega arith; so_far = closes_first c.args.kept c.args.stack.now c.args.tokens.now.items }

pub loop-i-preserved : goal.loop-i-preserved
loop-i-preserved c = record {
  within = omega (arith, c.loop-i.invariant.within);
  so_far = closes_one c.args.kept c.loop-i.i c.args.stack.now Quote c.loop-i.tokens.items c.push.new.tokens.items _ c.loop-i-test.true c.loop-i.invariant.within c.in_ok-push.ensures c.loop-i.invariant.so_far;
}

pub returns : goal.returns
returns c = closes_all c.args.kept c.loop-i.i c.args.stack.now c.loop-i.tokens.items _ c.loop-i-test.false c.loop-i.invariant.so_far
