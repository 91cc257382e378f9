use Rattle.std.proofs.Common.{◌≡◌, ◌∙◌, ◌<◌, List, ap, arith, length, subst, sym}
use Rattle.link_check.proofs.NumberLaws.{push_keeps, set_keeps, text_push, text_set}
use Rattle.link_check.specs.Numbers.{Keeps, held_at, texts_of}
use Rattle.link_check.specs.declared.value_table.Slot.{Slot}
use Rattle.link_check.proofs.value_table.put_slot.Goals as goal

pub returns-then-place-len-clause-held : goal.returns-then-place-len-clause-held
returns-then-place-len-clause-held c =
    let slots = c.args.slots.now.items in
    let within : c.args.place < length slots = omega (arith, c.if-place-len.true, c.len.ensures) in
    text_set slots c.args.place c.args.slot within

pub returns-then-place-len-clause-kept : goal.returns-then-place-len-clause-kept
returns-then-place-len-clause-kept c = set_keeps c.args.slots.now.items c.args.place c.args.slot

pub returns-clause-held : goal.returns-clause-held
returns-clause-held c =
    let slots = c.args.slots.now.items in
    let last : c.args.place ≡ length slots = omega (arith, c.requires, c.if-place-len.false, c.len.ensures) in
    ap (λ (l : List Slot). held_at (texts_of l) c.args.place) c.in_ok-push.ensures.items ∙ text_push slots c.args.place c.args.slot last

pub returns-clause-kept : goal.returns-clause-kept
returns-clause-kept c = λ free.
    let slots = c.args.slots.now.items in
    subst (λ (l : List Slot). Keeps (texts_of slots) (texts_of l)) (sym c.in_ok-push.ensures.items) (push_keeps slots c.args.slot)
