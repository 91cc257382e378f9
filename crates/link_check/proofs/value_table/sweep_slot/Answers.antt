use Rattle.std.proofs.Common.{◌≡◌, ◌∙◌, ap, false, get_or, sym}
use Rattle.std.proofs.lemmas.List.{get_or_read}
use Rattle.link_check.proofs.NumberLaws.{forgot_index, free_keeps}
use Rattle.link_check.specs.declared.value_table.Slot.{Slot}
use Rattle.link_check.proofs.value_table.sweep_slot.Goals as goal

pub returns-clause-sound : goal.returns-clause-sound
returns-clause-sound c =
    let slots = c.args.slots.now.items in
    let place = c.args.place in
    let slot = c.replace-slot.result in
    let is : slot ≡ get_or slots place slot = c.replace-slot.ensures.value ∙ c.index_mut.ensures.value ∙ ap (get_or slots place) (sym c.replace-slot.ensures.value) in
    forgot_index slots place slot c.replace-slot.new.dest c.args.numbers.now c.forget.new.numbers c.requires.within is c.requires.sound c.forget.ensures

pub returns-clause-kept : goal.returns-clause-kept
returns-clause-kept c =
    let slots = c.args.slots.now.items in
    let place = c.args.place in
    let slot = c.replace-slot.result in
    let is : slot ≡ get_or slots place slot = c.replace-slot.ensures.value ∙ c.index_mut.ensures.value ∙ ap (get_or slots place) (sym c.replace-slot.ensures.value) in
    let same : slot ≡ c.index.result.now = is ∙ sym (get_or_read slots place c.index.result.now c.requires.within c.index.ensures slot) in
    let unused : slot.is_used ≡ false = ap (λ (s : Slot). s.is_used) same ∙ c.if-index.false in
    free_keeps slots place slot c.replace-slot.new.dest c.requires.within is unused
