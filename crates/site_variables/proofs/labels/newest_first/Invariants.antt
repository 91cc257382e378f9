use Rattle.std.proofs.Common.{◌≡◌, drop}
use Rattle.site_base.specs.Plain.{no_pairs}
use Rattle.site_base.specs.View.{pairs_of}
use Rattle.site_items.specs.Defaults.{set_all}
use Rattle.site_variables.specs.Gathering.{newest_first}
use Rattle.site_variables.proofs.labels.newest_first.Given as goal

abbrev pub invariant-loop-group : goal.invariant-loop-group
invariant-loop-group l = set_all (newest_first (pairs_of (drop l.group-index l.groups))) l.made ≡ set_all (newest_first (pairs_of l.groups)) no_pairs
