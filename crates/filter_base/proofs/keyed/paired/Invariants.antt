use Rattle.std.proofs.Common.{◌≡◌, ◌++◌, drop, map}
use Rattle.site_base.specs.View.{items_of}
use Rattle.filter_base.specs.Keyed.{paired}
use Rattle.filter_base.specs.Taken.{entry_of}
use Rattle.filter_base.proofs.keyed.paired.Given as goal

abbrev pub invariant-loop-place : goal.invariant-loop-place
invariant-loop-place l = map entry_of l.entries.items ++ paired (items_of (drop l.place l.elements)) (items_of (drop l.place l.keys)) ≡ paired (items_of l.elements) (items_of l.keys)
