use Rattle.std.proofs.Common.{◌≡◌, ◌++◌, drop}
use Rattle.cm_tables.specs.Cells.{left}
use Rattle.cm_print.specs.Tables.{cell_name}
use Rattle.cm_print.specs.Writing.{written}
use Rattle.cm_print.proofs.TableLaws.{cells_text}
use Rattle.cm_print.proofs.writer.Writer.push_cells.Given as goal

abbrev pub invariant-loop-align : goal.invariant-loop-align
invariant-loop-align l = record {
  so_far : written l.self ++ cells_text l.links (cell_name l.kind) (drop l.align-index l.aligns) (left l.cells) ≡ written l.initial.self ++ cells_text l.links (cell_name l.kind) l.aligns (left l.initial.cells);
  most : l.self.most ≡ l.initial.self.most;
}
