use Rattle.std.proofs.Common.{◌≡◌, ◌+◌, ◌*◌, take}
use Rattle.site_base.specs.Plain.{weight, items_weight, pairs_weight}
use Rattle.site_base.specs.View.{plain, items_of, pairs_of}
use Rattle.site_base.proofs.value.+share.Given as goal

abbrev pub decreases-sharing::copy : goal.decreases-sharing::copy
decreases-sharing::copy l = 4 * weight (plain l.value.now)

abbrev pub decreases-List::share : goal.decreases-List::share
decreases-List::share l = 4 * items_weight l.self.now + 2

abbrev pub decreases-List::copied : goal.decreases-List::copied
decreases-List::copied l = 4 * items_weight l.self.now + 1

abbrev pub decreases-sharing::copies : goal.decreases-sharing::copies
decreases-sharing::copies l = 4 * items_weight (items_of l.values.now)

abbrev pub decreases-Hash::share : goal.decreases-Hash::share
decreases-Hash::share l = 4 * pairs_weight l.self.now + 3

abbrev pub decreases-Hash::copied : goal.decreases-Hash::copied
decreases-Hash::copied l = 4 * pairs_weight l.self.now + 2

abbrev pub decreases-HashBody::copied : goal.decreases-HashBody::copied
decreases-HashBody::copied l = 4 * pairs_weight l.self.now + 1

abbrev pub decreases-sharing::shared_pairs : goal.decreases-sharing::shared_pairs
decreases-sharing::shared_pairs l = 4 * pairs_weight (pairs_of l.pairs.now)

abbrev pub decreases-Pair::share : goal.decreases-Pair::share
decreases-Pair::share l = 4 * weight (plain l.self.now.value) + 1

abbrev pub invariant-sharing::copies-loop-value : goal.invariant-sharing::copies-loop-value
invariant-sharing::copies-loop-value l = l.made.items ≡ take l.value-index l.values

abbrev pub invariant-sharing::shared_pairs-loop-pair : goal.invariant-sharing::shared_pairs-loop-pair
invariant-sharing::shared_pairs-loop-pair l = l.made.items ≡ take l.pair-index l.pairs
