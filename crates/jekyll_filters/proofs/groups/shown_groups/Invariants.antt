use Rattle.std.proofs.Common.{◌≡◌, drop}
use Rattle.site_base.specs.Plain.{no_items}
use Rattle.site_base.specs.View.{pairs_of}
use Rattle.jekyll_filters.specs.Groups.{shown}
use Rattle.jekyll_filters.proofs.groups.shown_groups.Given as goal

abbrev pub invariant-loop-pair : goal.invariant-loop-pair
invariant-loop-pair l = shown (pairs_of (drop l.pair-index l.groups)) l.list ≡ shown (pairs_of l.groups) no_items
