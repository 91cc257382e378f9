use Rattle.std.proofs.Common.{length, ◌-◌, ◌≡◌, ◌≤◌, codes, drop}
use Rattle.markdown_grammar.specs.Autolinks.{host_part}
use Rattle.markdown_grammar.specs.Readers.{exactly, plus, repeat, ◌then◌}
use Rattle.cm_spans.proofs.autolinks.more_parts.Given as goal

abbrev pub invariant-loop-at : goal.invariant-loop-at
invariant-loop-at l = record {
  within : l.at ≤ length l.text;
  so_far : plus l.at (repeat (exactly (codes ".") then host_part) (drop l.at l.text)) ≡ repeat (exactly (codes ".") then host_part) l.text;
}

abbrev pub decreases-loop-at : goal.decreases-loop-at
decreases-loop-at l = length l.text - l.at
