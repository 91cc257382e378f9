use Rattle.std.proofs.Common.{◌≡◌, drop, map}
use Rattle.site_base.specs.Plain.{no_pairs}
use Rattle.filter_base.specs.Taken.{entry_of}
use Rattle.jekyll_filters.specs.Groups.{groups}
use Rattle.jekyll_filters.proofs.groups.groups.Given as goal

abbrev pub invariant-loop-entry : goal.invariant-loop-entry
invariant-loop-entry l = groups (map entry_of (drop l.entry-index l.entries)) l.made ≡ groups (map entry_of l.entries) no_pairs
