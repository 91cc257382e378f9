use Rattle.std.proofs.Common.{◌≡◌, ◌++◌, ◌+◌, ◌*◌, drop}
use Rattle.std.specs.String.{string_bytes}
use Rattle.site_base.specs.Plain.{weight, items_weight}
use Rattle.site_base.specs.View.{plain, items_of}
use Rattle.site_base.specs.Values.{items_text}
use Rattle.site_base.proofs.value.+text.Given as goal

abbrev pub decreases-writing::push_text : goal.decreases-writing::push_text
decreases-writing::push_text l = 2 * weight (plain l.value.now)

abbrev pub decreases-List::push_text : goal.decreases-List::push_text
decreases-List::push_text l = 2 * items_weight l.self.now + 1

abbrev pub invariant-List::push_text-loop-value : goal.invariant-List::push_text-loop-value
invariant-List::push_text-loop-value l = string_bytes l.out ++ items_text (items_of (drop l.value-index l.value-items)) ≡ string_bytes l.fn.out ++ items_text (items_of l.value-items)
