use Rattle.std.proofs.Common.{◌≡◌}
use Rattle.site_variables.proofs.by_place.shared.Given as goal

abbrev pub invariant-loop-list : goal.invariant-loop-list
invariant-loop-list l = l.made.items ≡ l.yielded
