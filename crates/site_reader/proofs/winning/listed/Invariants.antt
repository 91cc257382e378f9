use Rattle.std.proofs.Common.{◌≡◌, ◌++◌}
use Rattle.site_reader.proofs.winning.listed.Given as goal

abbrev pub invariant-loop-entry : goal.invariant-loop-entry
invariant-loop-entry l = l.entries.items ++ l.entry-iterator ≡ l.fn.won.entries
