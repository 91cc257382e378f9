use Rattle.std.proofs.Common.{length, ◌-◌, ◌≡◌, ◌+◌, ◌≤◌, drop}
use Rattle.liquid_grammar.specs.Pieces.{first_place, is_tag}
use Rattle.liquid_expr.proofs.places.find_tag.Given as goal

abbrev pub invariant-loop-i : goal.invariant-loop-i
invariant-loop-i l = record {
  within : l.i ≤ length l.text;
  rest : l.i + first_place (is_tag l.word) (drop l.i l.text) ≡ l.at + first_place (is_tag l.word) (drop l.at l.text);
}

abbrev pub decreases-loop-i : goal.decreases-loop-i
decreases-loop-i l = length l.text - l.i
