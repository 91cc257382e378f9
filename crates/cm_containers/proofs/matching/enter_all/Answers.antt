use Rattle.std.proofs.Common.{arith}
use Rattle.cm_containers.specs.declared.kinds.Container.TheVariants.{Quote}
use Rattle.cm_containers.proofs.Walking.{all_ahead, goes_on, spot_front, stops_at, stops_at_end, stops_behind}
use Rattle.cm_containers.proofs.matching.enter_all.Goals as goal

pub loop-kept-init : goal.loop-kept-init
loop-kept-init c = record { within = omega arith; spot = spot_front c.args.line.now c.utf8.line; so_far = all_ahead c.args.is_filled c.args.containers.now c.args.line.now }

pub loop-kept-smaller : goal.loop-kept-smaller
loop-kept-smaller c = omega (arith, c.loop-kept-test.true)

pub loop-kept-preserved : goal.loop-kept-preserved
loop-kept-preserved c = record {
  within = omega (arith, c.loop-kept-test.true);
  spot = c.in-Some.ensures.inside;
  so_far = goes_on c.args.is_filled c.args.containers.now c.loop-kept.kept Quote c.args.line.now c.loop-kept.spot c.in-Some.inside _ c.is_filled_at-is_filled_here.result c.loop-kept-test.true c.is_filled_at-is_filled_here.ensures c.in-Some.ensures.rest c.loop-kept.invariant.so_far;
}

pub returns-in-None-clause-value : goal.returns-in-None-clause-value
returns-in-None-clause-value c =
    stops_at c.args.is_filled c.args.containers.now c.loop-kept.kept Quote c.args.line.now c.loop-kept.spot _ c.is_filled_at-is_filled_here.result c.loop-kept-test.true c.is_filled_at-is_filled_here.ensures c.in-None.ensures.rest c.loop-kept.invariant.so_far

pub returns-clause-value : goal.returns-clause-value
returns-clause-value c = stops_behind c.args.is_filled c.args.containers.now c.loop-kept.kept c.args.line.now c.loop-kept.spot _ c.loop-kept-test.false c.loop-kept.invariant.so_far

pub returns-then-is_at_end-clause-value : goal.returns-then-is_at_end-clause-value
returns-then-is_at_end-clause-value c =
    stops_at_end c.args.is_filled c.args.containers.now c.args.quoted c.loop-kept.kept c.args.line.now c.loop-kept.spot _ c.items_kept-kept.result c.requires c.if-kept-quoted.true c.loop-kept-test.true (c.is_at_end.ensures c.if-is_at_end.true) c.items_kept-kept.ensures c.loop-kept.invariant.so_far
