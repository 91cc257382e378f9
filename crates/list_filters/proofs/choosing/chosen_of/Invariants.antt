use Rattle.std.proofs.Common.{◌≡◌, drop, map}
use Rattle.site_base.specs.Plain.{onto}
use Rattle.filter_base.specs.Taken.{entry_of}
use Rattle.list_filters.specs.Choosing.{chosen}
use Rattle.list_filters.specs.Tests.{passes}
use Rattle.list_filters.proofs.choosing.chosen_of.Given as goal

abbrev pub invariant-loop-entry : goal.invariant-loop-entry
invariant-loop-entry l = onto l.list (chosen (passes l.test) (map entry_of (drop l.entry-index l.entries))) ≡ chosen (passes l.test) (map entry_of l.entries)
