use Rattle.std.proofs.Common.{◌∙◌, arith}
use Rattle.std.proofs.lemmas.Result.{err_from_is_err_and}
use Rattle.cm_tables.specs.Cells.{left}
use Rattle.cm_print.specs.Tables.{cell_name}
use Rattle.cm_print.specs.Writing.{written}
use Rattle.cm_print.proofs.TableLaws.{all_taken, cells_first, cells_none, piece_refused, piece_taken}
use Rattle.cm_print.proofs.writer.Writer.push_cells.Goals as goal

pub loop-align-preserved : goal.loop-align-preserved
loop-align-preserved c =
    record {
      so_far = piece_taken (written c.loop-align.self) _ _ _ _ _ c.in_ok-push_cell.ensures.text (cells_first c.args.links.now (cell_name c.args.kind) c.args.aligns.now c.loop-align.align-index _ (left c.loop-align.cells) (left c.next_filled.new.self) c.next_filled.result.now (omega arith) c.next_filled.ensures) c.loop-align.invariant.so_far;
      most = c.in_ok-push_cell.ensures.most ∙ c.loop-align.invariant.most;
    }

pub returns-in_err-push_cell : goal.returns-in_err-push_cell
returns-in_err-push_cell c =
    let e = err_from_is_err_and c.from_residual.result c.from_residual.ensures.1 in
    rw (e.1, e.2) (λ long. piece_refused (written c.loop-align.self) _ _ _ _ c.args.self.now.most (cells_first c.args.links.now (cell_name c.args.kind) c.args.aligns.now c.loop-align.align-index _ (left c.loop-align.cells) (left c.next_filled.new.self) c.next_filled.result.now (omega arith) c.next_filled.ensures) c.loop-align.invariant.so_far (rw c.loop-align.invariant.most at (c.in_err-push_cell.ensures long)))

pub returns : goal.returns
returns c = record {
  text = all_taken (written c.loop-align.self) _ _ (cells_none c.args.links.now (cell_name c.args.kind) c.args.aligns.now c.loop-align.align-index (left c.loop-align.cells) (omega arith)) c.loop-align.invariant.so_far;
  most = c.loop-align.invariant.most;
}
