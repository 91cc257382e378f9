use Rattle.std.proofs.Common.{◌≡◌, ◌-◌, drop, length}
use Rattle.cm_print.specs.NodeWalk.{walk}
use Rattle.cm_print.specs.Printing.{state_of}
use Rattle.cm_print.proofs.printer.Printer.print.Given as goal

abbrev pub invariant-loop-place : goal.invariant-loop-place
invariant-loop-place l = record {
  same : walk l.links l.place (state_of l.self) (drop l.place l.nodes) ≡ walk l.links 0 (state_of l.initial.self) l.nodes;
  most : l.self.writer.most ≡ l.initial.self.writer.most;
}

abbrev pub decreases-loop-place : goal.decreases-loop-place
decreases-loop-place l = length l.nodes - l.place
