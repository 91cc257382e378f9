use Rattle.std.proofs.Common.{◌≡◌, drop}
use Rattle.liquid_parse.specs.Machine.{flat_of, steps}
use Rattle.liquid_parse.proofs.parsing.put_all.Given as goal

abbrev pub invariant-loop-piece : goal.invariant-loop-piece
invariant-loop-piece l = steps l.text (drop l.piece-index l.pieces) (flat_of l.building) ≡ steps l.text l.pieces (flat_of l.initial.building)
