use Rattle.std.proofs.Common.{◌≡◌, ◌∙◌, false, slice_set, subst, sym}
use Rattle.std.proofs.lemmas.List.{length-set}
use Rattle.link_check.proofs.NumberLaws.{text_unmarked}
use Rattle.link_check.specs.Numbers.{texts_of}
use Rattle.link_check.specs.declared.value_table.Slot.{Slot}
use Rattle.link_check.proofs.value_table.unmark.Goals as goal

pub loop-place-preserved : goal.loop-place-preserved
loop-place-preserved c =
    let slots = c.loop-place.slots.items in
    let place = c.loop-place.place in
    record {
      texts = subst (λ (s : Slot). texts_of (slice_set slots place (record { text = s.text; is_used = false })) ≡ texts_of slots) (sym c.index_mut.ensures.value) (text_unmarked slots place c.index_mut.result.now) ∙ c.loop-place.invariant.texts;
      same = length-set slots place (record { text = c.index_mut.result.now.text; is_used = false }) ∙ c.loop-place.invariant.same;
    }
