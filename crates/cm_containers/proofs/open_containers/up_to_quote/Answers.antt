use Rattle.std.proofs.Common.{arith}
use Rattle.cm_containers.specs.declared.kinds.Container.TheVariants.{Quote}
use Rattle.cm_containers.proofs.QuoteLaws.{all_looked_at, item_looked_at, none_found, quote_found}
use Rattle.cm_containers.proofs.open_containers.up_to_quote.Goals as goal

pub loop-end-init : goal.loop-end-init
loop-end-init c = record { within = omega arith; so_far = all_looked_at c.args.containers.now }

pub loop-end-preserved : goal.loop-end-preserved
loop-end-preserved c = record {
  within = omega (arith, c.loop-end.invariant.within);
  so_far = item_looked_at c.loop-end.end c.args.containers.now Quote c.is_quote.result c.loop-end-test.true c.loop-end.invariant.within c.is_quote.ensures c.if-is_quote.false c.loop-end.invariant.so_far;
}

pub returns-then-is_quote : goal.returns-then-is_quote
returns-then-is_quote c = quote_found c.loop-end.end c.args.containers.now Quote c.is_quote.result c.loop-end-test.true c.loop-end.invariant.within c.is_quote.ensures c.if-is_quote.true c.loop-end.invariant.so_far

pub returns : goal.returns
returns c = none_found c.loop-end.end c.args.containers.now c.loop-end-test.false c.loop-end.invariant.so_far
