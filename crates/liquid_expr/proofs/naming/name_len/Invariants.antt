use Rattle.std.proofs.Common.{length, ◌-◌, ◌+◌, ◌≡◌, ◌≤◌, drop}
use Rattle.liquid_grammar.specs.declared.tag.NamePlace.TheVariants.{InName}
use Rattle.liquid_grammar.specs.Tags.{name_len}
use Rattle.liquid_expr.proofs.naming.name_len.Given as goal

abbrev pub invariant-loop-at : goal.invariant-loop-at
invariant-loop-at l = record {
  within : l.at ≤ length l.text;
  told : l.at + name_len l.place (drop l.at l.text) ≡ name_len InName l.text;
}

abbrev pub decreases-loop-at : goal.decreases-loop-at
decreases-loop-at l = length l.text - l.at
