use Rattle.std.proofs.Common.{◌≡◌, ◌+◌, ◌*◌}
use Rattle.site_base.specs.Plain.{weight, items_weight, pairs_weight}
use Rattle.site_base.specs.View.{plain, items_of, pairs_of}
use Rattle.site_base.proofs.value.+into_shared.Given as goal

abbrev pub decreases-Value::into_shared : goal.decreases-Value::into_shared
decreases-Value::into_shared l = 4 * weight (plain l.self)

abbrev pub decreases-List::into_shared : goal.decreases-List::into_shared
decreases-List::into_shared l = 4 * items_weight l.self + 2

abbrev pub decreases-sharing::make_shared : goal.decreases-sharing::make_shared
decreases-sharing::make_shared l = 4 * items_weight (items_of l.values.now)

abbrev pub decreases-Hash::into_shared : goal.decreases-Hash::into_shared
decreases-Hash::into_shared l = 4 * pairs_weight l.self + 2

abbrev pub decreases-HashBody::into_shared : goal.decreases-HashBody::into_shared
decreases-HashBody::into_shared l = 4 * pairs_weight l.self + 1

abbrev pub decreases-sharing::make_pairs_shared : goal.decreases-sharing::make_pairs_shared
decreases-sharing::make_pairs_shared l = 4 * pairs_weight (pairs_of l.pairs.now)

abbrev pub decreases-Pair::into_shared : goal.decreases-Pair::into_shared
decreases-Pair::into_shared l = 4 * weight (plain l.self.value) + 1

abbrev pub invariant-sharing::make_shared-loop-value : goal.invariant-sharing::make_shared-loop-value
invariant-sharing::make_shared-loop-value l = l.values ≡ l.fn.values

abbrev pub invariant-sharing::make_pairs_shared-loop-pair : goal.invariant-sharing::make_pairs_shared-loop-pair
invariant-sharing::make_pairs_shared-loop-pair l = l.pairs ≡ l.fn.pairs
