use Rattle.std.proofs.Common.{take}
use Rattle.site_config.specs.Seen.{HasNames}
use Rattle.site_config.proofs.collections.names_of.Given as goal

abbrev pub invariant-loop-collection : goal.invariant-loop-collection
invariant-loop-collection l = HasNames l.seen (take l.collection-index l.collection-items)
