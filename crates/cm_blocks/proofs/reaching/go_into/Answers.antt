use Rattle.std.proofs.Common.{false, sym, true, ◌∙◌}
use Rattle.cm_blocks.proofs.Reaches.{is_reached}
use Rattle.cm_blocks.proofs.reaching.go_into.Goals as goal

pub returns-then-goes_on_lazily-clause-value : goal.returns-then-goes_on_lazily-clause-value
returns-then-goes_on_lazily-clause-value c =
    is_reached c.args.is_prose c.args.is_filled c.args.stack.now c.args.line.now c.enter-kept.result c.len-count.result true c.len-count.ensures c.enter-kept.ensures.value (sym c.if-goes_on_lazily.true ∙ c.goes_on_lazily.ensures)

pub returns-clause-value : goal.returns-clause-value
returns-clause-value c =
    is_reached c.args.is_prose c.args.is_filled c.args.stack.now c.args.line.now c.enter-kept.result c.len-count.result false c.len-count.ensures c.enter-kept.ensures.value (sym c.if-goes_on_lazily.false ∙ c.goes_on_lazily.ensures)
