use Rattle.std.proofs.Common.{◌≡◌, ◌++◌, ◌+◌, ◌*◌, drop}
use Rattle.std.specs.String.{string_bytes}
use Rattle.site_base.specs.Plain.{weight, items_weight, pairs_weight}
use Rattle.site_base.specs.View.{plain, items_of, pairs_of}
use Rattle.site_base.specs.Code.{items_code, pairs_code}
use Rattle.site_base.proofs.value.+code.Given as goal

abbrev pub decreases-coding::push_code : goal.decreases-coding::push_code
decreases-coding::push_code l = 2 * weight (plain l.value.now)

abbrev pub decreases-List::push_code : goal.decreases-List::push_code
decreases-List::push_code l = 2 * items_weight l.self.now + 1

abbrev pub decreases-Hash::push_code : goal.decreases-Hash::push_code
decreases-Hash::push_code l = 2 * pairs_weight l.self.now + 1

abbrev pub invariant-List::push_code-loop-value : goal.invariant-List::push_code-loop-value
invariant-List::push_code-loop-value l = string_bytes l.out ++ items_code (items_of (drop l.value-index l.value-items)) ≡ string_bytes l.initial.out ++ items_code (items_of l.value-items)

abbrev pub invariant-Hash::push_code-loop-pair : goal.invariant-Hash::push_code-loop-pair
invariant-Hash::push_code-loop-pair l = string_bytes l.out ++ pairs_code (pairs_of (drop l.pair-index l.pair-items)) ≡ string_bytes l.initial.out ++ pairs_code (pairs_of l.pair-items)
