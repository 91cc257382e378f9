use Rattle.std.proofs.Common.{arith}
use Rattle.cm_containers.proofs.Entering.{columns_before, item_kept_blank, item_kept_wide, item_left}
use Rattle.cm_containers.proofs.matching.enter_item.Goals as goal

pub overflow_sub-inside : goal.overflow_sub-inside
overflow_sub-inside c = omega (arith, columns_before c.args.line.now c.args.spot c.shift-inside.result c.args.indent c.shift-inside.ensures.rest)

pub returns-then-inside-spot-clause-rest : goal.returns-then-inside-spot-clause-rest
returns-then-inside-spot-clause-rest c = item_kept_wide c.args.line.now c.args.spot c.shift-inside.result c.args.indent c.shift-inside.ensures.rest c.if-inside-spot.true

pub returns-then-inside-line-clause-rest : goal.returns-then-inside-line-clause-rest
returns-then-inside-line-clause-rest c =
    item_kept_blank c.args.line.now c.args.spot c.shift-inside.result c.args.indent c.shift-inside.ensures.spot c.shift-inside.ensures.rest c.if-inside-spot.false c.if-inside-line.true

pub returns-clause-rest : goal.returns-clause-rest
returns-clause-rest c =
    item_left c.args.line.now c.args.spot c.shift-inside.result c.args.indent c.shift-inside.ensures.spot c.shift-inside.ensures.rest c.if-inside-spot.false c.if-inside-line.false
