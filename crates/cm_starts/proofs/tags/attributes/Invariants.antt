use Rattle.std.proofs.Common.{length, ◌-◌, ◌≡◌, ◌≤◌, drop}
use Rattle.markdown_grammar.specs.Readers.{plus, repeat}
use Rattle.markdown_grammar.specs.Tags.{attribute}
use Rattle.cm_starts.proofs.tags.attributes.Given as goal

abbrev pub invariant-loop-at : goal.invariant-loop-at
invariant-loop-at l = record {
  within : l.at ≤ length l.text;
  so_far : plus l.at (repeat attribute (drop l.at l.text)) ≡ repeat attribute l.text;
}

abbrev pub decreases-loop-at : goal.decreases-loop-at
decreases-loop-at l = length l.text - l.at
