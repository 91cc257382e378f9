use Rattle.std.proofs.Common.{◌≡◌}
use Rattle.liquid_grammar.specs.Pieces.{size, with_front, cut_from, cut_of}
use Rattle.liquid_expr.specs.CutSteps.{left, IsPlaced}
use Rattle.liquid_expr.proofs.cutting.cut_up.Given as goal

abbrev pub invariant-pieces : goal.invariant-pieces
invariant-pieces l = IsPlaced l.cutter × (with_front l.list.items (cut_from (left l.cutter)) ≡ cut_of l.text)

abbrev pub decreases-pieces : goal.decreases-pieces
decreases-pieces l = size (left l.cutter)
