use Rattle.std.proofs.Common.{◌≡◌, drop, map}
use Rattle.site_base.specs.Plain.{onto}
use Rattle.filter_base.specs.Keyed.{values}
use Rattle.filter_base.specs.Taken.{entry_of}
use Rattle.list_filters.proofs.key_order.values.Given as goal

abbrev pub invariant-loop-entry : goal.invariant-loop-entry
invariant-loop-entry l = onto l.list (values (map entry_of (drop l.entry-index l.entries))) ≡ values (map entry_of l.entries)
