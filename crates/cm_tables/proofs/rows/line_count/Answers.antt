use Rattle.std.proofs.Common.{arith}
use Rattle.cm_tables.proofs.RowLaws.{lines_counted}
use Rattle.cm_tables.proofs.rows.line_count.Goals as goal

pub returns-clause-value : goal.returns-clause-value
returns-clause-value c = rw c.as_bytes-byte-items.ensures.value at (lines_counted c.loop-byte.count c.loop-byte.byte-index c.as_bytes-byte-items.result.now (omega arith) c.loop-byte.invariant.so_far)
