use Rattle.std.proofs.Common.{◌≡◌, ◌+◌, ◌*◌, drop}
use Rattle.std.specs.Option.{option_copied}
use Rattle.site_base.specs.Plain.{weight, items_weight, pairs_weight}
use Rattle.site_base.specs.View.{plain, items_of, pairs_of}
use Rattle.site_base.specs.Code.{past, items_code, pairs_code}
use Rattle.site_base.proofs.value.+past.Given as goal

abbrev pub decreases-matching::past_value : goal.decreases-matching::past_value
decreases-matching::past_value l = 2 * weight (plain l.value.now)

abbrev pub decreases-List::past_code : goal.decreases-List::past_code
decreases-List::past_code l = 2 * items_weight l.self.now + 1

abbrev pub decreases-Hash::past_code : goal.decreases-Hash::past_code
decreases-Hash::past_code l = 2 * pairs_weight l.self.now + 1

abbrev pub invariant-List::past_code-loop-value : goal.invariant-List::past_code-loop-value
invariant-List::past_code-loop-value l = past (items_code (items_of (drop l.value-index l.value-items))) (option_copied l.rest) ≡ past (items_code (items_of l.value-items)) (option_copied l.initial.rest)

abbrev pub invariant-Hash::past_code-loop-pair : goal.invariant-Hash::past_code-loop-pair
invariant-Hash::past_code-loop-pair l = past (pairs_code (pairs_of (drop l.pair-index l.pair-items))) (option_copied l.rest) ≡ past (pairs_code (pairs_of l.pair-items)) (option_copied l.initial.rest)
