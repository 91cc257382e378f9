use Rattle.std.proofs.Common.{length, ◌-◌, ◌≡◌, ◌+◌, ◌≤◌, drop}
use Rattle.liquid_grammar.specs.Pieces.{first_place, opens}
use Rattle.liquid_expr.proofs.places.find_open.Given as goal

abbrev pub invariant-loop-i : goal.invariant-loop-i
invariant-loop-i l = record {
  within : l.i ≤ length l.text;
  rest : l.i + first_place opens (drop l.i l.text) ≡ 0 + first_place opens (drop 0 l.text);
}

abbrev pub decreases-loop-i : goal.decreases-loop-i
decreases-loop-i l = length l.text - l.i
