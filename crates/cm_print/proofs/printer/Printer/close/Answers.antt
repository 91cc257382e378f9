use Rattle.std.proofs.Common.{◌∙◌, arith, sym}
use Rattle.std.proofs.lemmas.Bool.{ne_eqb}
use Rattle.std.proofs.lemmas.Result.{err_from_is_err_and}
use Rattle.cm_print.proofs.PrinterLaws.{pop_exceeds}
use Rattle.cm_print.proofs.WalkLaws.{stays}
use Rattle.cm_print.proofs.printer.Printer.close.Goals as goal

pub returns-in_err-push_end : goal.returns-in_err-push_end
returns-in_err-push_end c =
    let e = err_from_is_err_and c.from_residual.result c.from_residual.ensures.1 in
    rw (e.1, e.2) (λ long.
    pop_exceeds c.args.place c.loop-self.self.top c.in-Some.next _ _ _ _ c.args.self.now.writer.most (omega arith) c.in-Some.ensures.items c.loop-self.invariant.same (rw c.loop-self.invariant.most at (c.in_err-push_end.ensures long)))

pub returns : goal.returns
returns c = record {
  state = sym (stays c.args.place c.loop-self.self.top _ _ (ne_eqb c.loop-self.self.top.end c.args.place c.loop-self-test.false)) ∙ c.loop-self.invariant.same;
  most = c.loop-self.invariant.most;
}
