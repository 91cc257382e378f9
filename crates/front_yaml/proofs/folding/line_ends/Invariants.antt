use Rattle.std.proofs.Common.{◌≡◌, ◌≤◌, ◌+◌, drop}
use Rattle.front_yaml.specs.TextLines.{line_ends}
use Rattle.front_yaml.proofs.folding.line_ends.Given as goal

abbrev pub invariant-loop-c : goal.invariant-loop-c
invariant-loop-c l = record { within : l.count ≤ l.c-index; counted : l.count + line_ends (drop l.c-index l.text) ≡ line_ends l.fn.text }
