use Rattle.std.proofs.Common.{length, ◌-◌, ◌≡◌, ◌+◌, ◌++◌, ◌≤◌, drop}
use Rattle.site_base.specs.Lines.{lines}
use Rattle.front_yaml.specs.TextLines.{numbered, text_lines}
use Rattle.front_yaml.proofs.text_lines.cut_lines.Given as goal

abbrev pub invariant-loop-at : goal.invariant-loop-at
invariant-loop-at l = record { within : l.at ≤ length l.text; few : l.number ≤ l.at + 1; told : l.lines.items ++ numbered l.number (lines (drop l.at l.text)) ≡ text_lines l.text }

abbrev pub decreases-loop-at : goal.decreases-loop-at
decreases-loop-at l = length l.text - l.at
