use Rattle.std.proofs.Common.{arith}
use Rattle.std.proofs.lemmas.Result.{err_from_is_err_and}
use Rattle.cm_print.specs.Printing.{state_of}
use Rattle.cm_print.proofs.PrinterLaws.{behind_all, finishes, node_exceeds}
use Rattle.cm_print.proofs.printer.Printer.print.Goals as goal

pub returns-in_err-step : goal.returns-in_err-step
returns-in_err-step c =
    let e = err_from_is_err_and c.from_residual.result c.from_residual.ensures.1 in
    rw (e.1, e.2) (λ long.
    node_exceeds c.args.links.now c.loop-place.place (state_of c.loop-place.self) c.args.nodes.now c.index-nodes-place.result _ c.args.self.now.writer.most (omega arith) c.index-nodes-place.is c.loop-place.invariant.same
    (rw c.loop-place.invariant.most at (c.in_err-step.ensures long)))

pub returns : goal.returns
returns c =
    finishes c.args.self.now c.loop-place.self c.close.new.self _ _ c.close.result c.close.ensures
    (behind_all c.args.links.now c.loop-place.place (state_of c.loop-place.self) c.args.nodes.now _ (omega arith) c.loop-place.invariant.same) c.loop-place.invariant.most
