use Rattle.std.proofs.Common.{◌≡◌, ◌++◌, length}
use Rattle.cm_tables.specs.Rows.{below}
use Rattle.cm_print.specs.Writing.{written}
use Rattle.cm_print.proofs.TableLaws.{rows_text}
use Rattle.cm_print.proofs.writer.Writer.push_rows.Given as goal

abbrev pub invariant-loop-line : goal.invariant-loop-line
invariant-loop-line l = record {
  so_far : written l.self ++ rows_text l.links l.aligns (below l.rows) ≡ written l.initial.self ++ rows_text l.links l.aligns (below l.initial.rows);
  most : l.self.most ≡ l.initial.self.most;
}

abbrev pub decreases-loop-line : goal.decreases-loop-line
decreases-loop-line l = length (below l.rows)
