use Rattle.std.proofs.Common.{◌∙◌, sym}
use Rattle.cm_tables.proofs.CellLaws.{behind_first}
use Rattle.cm_tables.proofs.cells.without_first_pipe.Goals as goal

pub range_from-requires : goal.range_from-requires
range_from-requires c = λ _. behind_first c.args.text.now c.utf8.text (rw c.as_bytes.ensures.value at (sym c.starts_with.ensures.value ∙ c.if-starts_with.true))
