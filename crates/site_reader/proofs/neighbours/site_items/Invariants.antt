use Rattle.std.proofs.Common.{◌≡◌, ◌++◌, None}
use Rattle.std.specs.BTreeMap.{btree_map_len}
use Rattle.site_reader.specs.Neighbours.{site_items}
use Rattle.site_reader.proofs.neighbours.site_items.Given as goal

abbrev pub invariant-loop-rank : goal.invariant-loop-rank
invariant-loop-rank l = l.done.items ++ site_items l.documents l.before l.ranked.entries ≡ site_items l.documents None l.initial.ranked.entries

abbrev pub decreases-loop-rank : goal.decreases-loop-rank
decreases-loop-rank l = btree_map_len l.ranked
