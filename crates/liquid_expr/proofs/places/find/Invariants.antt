use Rattle.std.proofs.Common.{length, ◌-◌, ◌≡◌, ◌+◌, ◌≤◌, drop}
use Rattle.liquid_grammar.specs.Pieces.{first_place, begins}
use Rattle.liquid_expr.proofs.places.find.Given as goal

abbrev pub invariant-loop-i : goal.invariant-loop-i
invariant-loop-i l = record {
  within : l.i ≤ length l.text;
  rest : l.i + first_place (begins l.mark) (drop l.i l.text) ≡ l.at + first_place (begins l.mark) (drop l.at l.text);
}

abbrev pub decreases-loop-i : goal.decreases-loop-i
decreases-loop-i l = length l.text - l.i
