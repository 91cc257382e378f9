use Rattle.std.proofs.Common.{◌≡◌, ◌+◌, ◌*◌, drop, nat_le}
use Rattle.site_base.specs.View.{items_of, pairs_of}
use Rattle.filter_base.specs.Limits.{items_nest, pairs_nest}
use Rattle.filter_base.proofs.limits.+nesting.Given as goal

abbrev pub decreases-nests_within : goal.decreases-nests_within
decreases-nests_within l = 2 * l.most

abbrev pub decreases-items_within : goal.decreases-items_within
decreases-items_within l = 2 * l.most + 1

abbrev pub decreases-pairs_within : goal.decreases-pairs_within
decreases-pairs_within l = 2 * l.most + 1

abbrev pub invariant-items_within-loop-item : goal.invariant-items_within-loop-item
invariant-items_within-loop-item l = nat_le (items_nest (items_of (drop l.item-index l.items))) l.most ≡ nat_le (items_nest (items_of l.items)) l.most

abbrev pub invariant-pairs_within-loop-pair : goal.invariant-pairs_within-loop-pair
invariant-pairs_within-loop-pair l = nat_le (pairs_nest (pairs_of (drop l.pair-index l.pairs))) l.most ≡ nat_le (pairs_nest (pairs_of l.pairs)) l.most
