use Rattle.std.proofs.Common.{arith}
use Rattle.cm_tables.proofs.CellLaws.{cells_last, cells_more}
use Rattle.cm_tables.proofs.cells.cut_first.Goals as goal

pub returns-then-len-text : goal.returns-then-len-text
returns-then-len-text c = rw (c.range.ensures.value, c.range_from.ensures.value, c.cell_len-len.ensures.value) (cells_more c.args.text.now (omega (arith, c.if-len-text.true, c.cell_len-len.ensures.value)))

pub returns-else-len-text : goal.returns-else-len-text
returns-else-len-text c = cells_last c.args.text.now (omega (arith, c.if-len-text.false, c.cell_len-len.ensures.value))
