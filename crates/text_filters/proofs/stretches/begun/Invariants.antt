use Rattle.std.proofs.Common.{◌≡◌, length}
use Rattle.text_filters.specs.Stretches.{begun}
use Rattle.text_filters.proofs.stretches.begun.Given as goal

abbrev pub invariant-loop-kinds : goal.invariant-loop-kinds
invariant-loop-kinds l = begun l.kinds l.text ≡ begun l.fn.kinds l.text

abbrev pub decreases-loop-kinds : goal.decreases-loop-kinds
decreases-loop-kinds l = length l.kinds
