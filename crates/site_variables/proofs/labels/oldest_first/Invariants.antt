use Rattle.std.proofs.Common.{◌≡◌, drop}
use Rattle.std.specs.Prelude.{fold}
use Rattle.site_variables.specs.Gathering.{oldest_first, with_newer}
use Rattle.site_variables.specs.Lists.{posts}
use Rattle.site_variables.proofs.labels.oldest_first.Given as goal

abbrev pub invariant-loop-item : goal.invariant-loop-item
invariant-loop-item l = fold (with_newer l.key) l.groups (posts (drop l.item-index l.items)) ≡ oldest_first l.key (posts l.items)
