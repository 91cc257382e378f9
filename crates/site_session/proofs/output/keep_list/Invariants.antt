use Rattle.std.proofs.Common.{◌≡◌, ◌++◌, drop}
use Rattle.site_session.proofs.output.keep_list.Given as goal

abbrev pub invariant-loop-entry : goal.invariant-loop-entry
invariant-loop-entry l = l.keep ++ drop l.entry-index l.entries ≡ l.entries
