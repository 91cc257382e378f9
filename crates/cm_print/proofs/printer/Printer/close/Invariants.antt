use Rattle.std.proofs.Common.{◌≡◌, vec_len}
use Rattle.cm_print.specs.Printing.{closed_at, state_of}
use Rattle.cm_print.proofs.printer.Printer.close.Given as goal

abbrev pub invariant-loop-self : goal.invariant-loop-self
invariant-loop-self l = record {
  same : closed_at l.place (state_of l.self) ≡ closed_at l.place (state_of l.initial.self);
  most : l.self.writer.most ≡ l.initial.self.writer.most;
}

abbrev pub decreases-loop-self : goal.decreases-loop-self
decreases-loop-self l = vec_len l.self.outer
