use Rattle.std.proofs.Common.{sym}
use Rattle.cm_tables.proofs.RowLaws.{none_below}
use Rattle.cm_tables.proofs.rows.Rows.is_empty.Goals as goal

pub returns : goal.returns
returns c = none_below c.args.self.now.rest c.is_none.result (sym c.is_none.ensures)
