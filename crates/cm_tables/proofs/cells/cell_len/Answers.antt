use Rattle.std.proofs.Common.{lit<}
use Rattle.site_text.proofs.Runs.{boundary_byte}
use Rattle.cm_tables.proofs.cells.cell_len.Goals as goal

pub returns-then-not-escaped-clause-behind : goal.returns-then-not-escaped-clause-behind
returns-then-not-escaped-clause-behind c = λ lt. boundary_byte c.args.text.now c.loop-place.place 124 c.utf8.text lt (rw c.as_bytes-byte-items.ensures.value at c.if-byte-eq124.true) (lit< tt)
