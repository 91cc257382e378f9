use Rattle.source_tree.specs.Put.{plain}
use Rattle.source_tree.proofs.Fitted.{Fits}
use Rattle.source_tree.proofs.fitting.count_fitting.Given as goal

abbrev pub invariant-loop-number : goal.invariant-loop-number
invariant-loop-number l = Fits (plain l.files) l.number l.total
