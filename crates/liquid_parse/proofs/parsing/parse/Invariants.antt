use Rattle.std.proofs.Common.{◌≡◌, List}
use Rattle.liquid_grammar.specs.declared.piece.Piece.{Piece}
use Rattle.liquid_grammar.specs.Pieces.{size, with_front, cut_from, cut_of}
use Rattle.liquid_expr.specs.CutSteps.{left, IsPlaced}
use Rattle.liquid_parse.specs.Machine.{flat_of}
use Rattle.liquid_parse.proofs.AllPieces.{Runs}
use Rattle.liquid_parse.proofs.parsing.parse.Given as goal

abbrev pub invariant-fronts : goal.invariant-fronts
invariant-fronts l = IsPlaced l.cutter × (front : List Piece) × (with_front front (cut_from (left l.cutter)) ≡ cut_of l.text) × Runs l.text (cut_from (left l.cutter)).pieces (flat_of l.building)

abbrev pub decreases-fronts : goal.decreases-fronts
decreases-fronts l = size (left l.cutter)
