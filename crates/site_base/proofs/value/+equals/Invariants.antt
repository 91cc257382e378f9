use Rattle.std.proofs.Common.{◌≡◌, ◌↔◌, ◌+◌, ◌*◌, drop}
use Rattle.site_base.specs.Plain.{weight, items_weight, pairs_weight}
use Rattle.site_base.specs.View.{plain, items_of, pairs_of}
use Rattle.site_base.proofs.value.+equals.Given as goal

abbrev pub decreases-equality::equals : goal.decreases-equality::equals
decreases-equality::equals l = 2 * weight (plain l.left.now)

abbrev pub decreases-List::is_same : goal.decreases-List::is_same
decreases-List::is_same l = 2 * items_weight l.self.now + 1

abbrev pub decreases-Hash::is_same : goal.decreases-Hash::is_same
decreases-Hash::is_same l = 2 * pairs_weight l.self.now + 1

abbrev pub decreases-equality::are_same : goal.decreases-equality::are_same
decreases-equality::are_same l = 2 * items_weight (items_of l.left.now)

abbrev pub decreases-equality::are_same_pairs : goal.decreases-equality::are_same_pairs
decreases-equality::are_same_pairs l = 2 * pairs_weight (pairs_of l.left.now)

abbrev pub decreases-Pair::is_same : goal.decreases-Pair::is_same
decreases-Pair::is_same l = 2 * weight (plain l.self.now.value) + 1

abbrev pub invariant-equality::are_same-loop-place : goal.invariant-equality::are_same-loop-place
invariant-equality::are_same-loop-place l = (items_of (drop l.place l.left) ≡ items_of (drop l.place l.right)) ↔ (items_of l.left ≡ items_of l.right)

abbrev pub invariant-equality::are_same_pairs-loop-place : goal.invariant-equality::are_same_pairs-loop-place
invariant-equality::are_same_pairs-loop-place l = (pairs_of (drop l.place l.left) ≡ pairs_of (drop l.place l.right)) ↔ (pairs_of l.left ≡ pairs_of l.right)
