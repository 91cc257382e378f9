use Rattle.std.proofs.Common.{◌<◌, ◌≤◌, arith, length, slice_set, subst, sym, true}
use Rattle.link_check.proofs.NumberLaws.{beyond_safe, set_marks, set_safe}
use Rattle.link_check.specs.Numbers.{Marks}
use Rattle.link_check.specs.declared.value_table.Slot.{Slot}
use Rattle.link_check.proofs.value_table.mark_slot.Goals as goal

pub returns-then-place-len-clause-same : goal.returns-then-place-len-clause-same
returns-then-place-len-clause-same c =
    let slots = c.args.slots.now.items in
    let place = c.args.place in
    let within : place < length slots = omega (arith, c.if-place-len.true, c.len.ensures) in
    subst (λ (s : Slot). Marks slots (slice_set slots place (record { text = s.text; is_used = true }))) (sym c.index_mut.ensures.value) (set_marks slots place c.index_mut.result.now within)

pub returns-then-place-len-clause-safe : goal.returns-then-place-len-clause-safe
returns-then-place-len-clause-safe c =
    let slots = c.args.slots.now.items in
    let within : c.args.place < length slots = omega (arith, c.if-place-len.true, c.len.ensures) in
    set_safe slots c.args.place c.index_mut.result.now.text within

pub returns-else-place-len-clause-safe : goal.returns-else-place-len-clause-safe
returns-else-place-len-clause-safe c =
    let slots = c.args.slots.now.items in
    let beyond : length slots ≤ c.args.place = omega (arith, c.if-place-len.false, c.len.ensures) in
    beyond_safe slots c.args.place beyond
