use Rattle.std.proofs.Common.{◌≡◌, IfSome, is_some, sym, ap, subst, ◌∙◌, swap_remove}
use Rattle.std.specs.FinMap.{remove}
use Rattle.slab.proofs.SlabLemmas.{Updates-with_value}
use Rattle.text_pool.specs.Texts.{IsHeld}
use Rattle.text_pool.proofs.TableLaws.{Entry, key_there, has_entry, sound-shorter, texts-shorter, moved_slot, sound-moved, texts-moved}
use Rattle.text_pool.proofs.text_table.TextTable.remove.Goals as goal

pub remove-slot-requires : goal.remove-slot-requires
remove-slot-requires c = key_there c.self.inside.numbers.entries c.self.inside.slots c.self.invariant c.args.number (subst (λ t. IsHeld t c.args.number) (sym c.self.view_is) c.requires)

pub index_mut-requires : goal.index_mut-requires
index_mut-requires c =
    let es = c.self.inside.numbers.entries in
    let fs = c.swap_remove_index.new.self.entries in
    let slots = c.self.inside.slots in
    let slot = c.remove-slot.result in
    let e = has_entry es slots c.self.invariant c.args.number slot c.remove-slot.ensures.value in
    let swapped : fs ≡ swap_remove es slot.place e.0 = subst (λ r. IfSome r (λ p. fs ≡ swap_remove es slot.place p)) (c.swap_remove_index.ensures.entry ∙ e.1) c.swap_remove_index.ensures.entries in
    ap is_some (
    moved_slot es fs slots c.remove-slot.new.self c.args.number slot e.0 (c.in-Some.field-0-0.now, c.in-Some.moved.now) c.self.invariant c.remove-slot.ensures.value swapped c.remove-slot.ensures.updates
    (sym c.in-Some.ensures.entry)
    ).1

pub invariant_of-self : goal.invariant_of-self
invariant_of-self c =
    let es = c.self.inside.numbers.entries in
    let fs = c.swap_remove_index.new.self.entries in
    let slots = c.self.inside.slots in
    let mid = c.remove-slot.new.self in
    let slot = c.remove-slot.result in
    let last : Entry = (c.in-Some.field-0-0.now, c.in-Some.moved.now) in
    let e = has_entry es slots c.self.invariant c.args.number slot c.remove-slot.ensures.value in
    let swapped : fs ≡ swap_remove es slot.place e.0 = subst (λ r. IfSome r (λ p. fs ≡ swap_remove es slot.place p)) (c.swap_remove_index.ensures.entry ∙ e.1) c.swap_remove_index.ensures.entries in
    sound-moved es fs slots mid c.args.number slot e.0 last c.self.invariant c.remove-slot.ensures.value swapped c.remove-slot.ensures.updates (sym c.in-Some.ensures.entry) _ c.index_mut.result.now
    c.index_mut.ensures.value
    (Updates-with_value mid c.in-Some.moved.now _ (ap is_some c.index_mut.ensures.value))

pub invariant_of-self-in_default : goal.invariant_of-self-in_default
invariant_of-self-in_default c =
    let es = c.self.inside.numbers.entries in
    let fs = c.swap_remove_index.new.self.entries in
    let slots = c.self.inside.slots in
    let slot = c.remove-slot.result in
    let e = has_entry es slots c.self.invariant c.args.number slot c.remove-slot.ensures.value in
    let swapped : fs ≡ swap_remove es slot.place e.0 = subst (λ r. IfSome r (λ p. fs ≡ swap_remove es slot.place p)) (c.swap_remove_index.ensures.entry ∙ e.1) c.swap_remove_index.ensures.entries in
    sound-shorter es fs slots c.remove-slot.new.self c.args.number slot e.0 c.self.invariant c.remove-slot.ensures.value swapped c.remove-slot.ensures.updates (sym c.in_default.ensures.entry)

pub returns-in-Some : goal.returns-in-Some
returns-in-Some c =
    let es = c.self.inside.numbers.entries in
    let fs = c.swap_remove_index.new.self.entries in
    let slots = c.self.inside.slots in
    let mid = c.remove-slot.new.self in
    let slot = c.remove-slot.result in
    let last : Entry = (c.in-Some.field-0-0.now, c.in-Some.moved.now) in
    let e = has_entry es slots c.self.invariant c.args.number slot c.remove-slot.ensures.value in
    let swapped : fs ≡ swap_remove es slot.place e.0 = subst (λ r. IfSome r (λ p. fs ≡ swap_remove es slot.place p)) (c.swap_remove_index.ensures.entry ∙ e.1) c.swap_remove_index.ensures.entries in
    texts-moved es fs slots mid c.args.number slot e.0 last c.self.invariant c.remove-slot.ensures.value swapped c.remove-slot.ensures.updates (sym c.in-Some.ensures.entry) _ c.index_mut.result.now
    c.index_mut.ensures.value
    (Updates-with_value mid c.in-Some.moved.now _ (ap is_some c.index_mut.ensures.value))
    ∙ ap (λ t. remove t c.args.number) c.self.view_is

pub returns-in_default : goal.returns-in_default
returns-in_default c =
    let es = c.self.inside.numbers.entries in
    let fs = c.swap_remove_index.new.self.entries in
    let slots = c.self.inside.slots in
    let slot = c.remove-slot.result in
    let e = has_entry es slots c.self.invariant c.args.number slot c.remove-slot.ensures.value in
    let swapped : fs ≡ swap_remove es slot.place e.0 = subst (λ r. IfSome r (λ p. fs ≡ swap_remove es slot.place p)) (c.swap_remove_index.ensures.entry ∙ e.1) c.swap_remove_index.ensures.entries in
    texts-shorter es fs slots c.remove-slot.new.self c.args.number slot e.0 c.self.invariant c.remove-slot.ensures.value swapped c.remove-slot.ensures.updates (sym c.in_default.ensures.entry)
    ∙ ap (λ t. remove t c.args.number) c.self.view_is
