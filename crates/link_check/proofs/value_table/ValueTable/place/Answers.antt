use Rattle.std.proofs.Common.{◌≡◌, ◌∙◌, List, None, Option, ap, ℕ}
use Rattle.link_check.proofs.NumberLaws.{keeps_index}
use Rattle.link_check.specs.Numbers.{held_at, texts_of}
use Rattle.link_check.proofs.value_table.ValueTable.place.Goals as goal

pub invariant_of-self : goal.invariant_of-self
invariant_of-self c =
    let slots = c.self.inside.slots.items in
    let place = c.free_slot-place.result in
    let free : held_at (texts_of slots) place ≡ None = ap (λ (v : List (Option (List ℕ))). held_at v place) c.self.view_is ∙ c.free_slot-place.ensures.free in
    keeps_index (texts_of slots) (texts_of c.put_slot.new.slots.items) c.self.inside.numbers (c.put_slot.ensures.kept free) c.self.invariant

pub invariant_of-self-2 : goal.invariant_of-self-2
invariant_of-self-2 c =
    let slots = c.self.inside.slots.items in
    let place = c.free_slot-place.result in
    let free : held_at (texts_of slots) place ≡ None = ap (λ (v : List (Option (List ℕ))). held_at v place) c.self.view_is ∙ c.free_slot-place.ensures.free in
    keeps_index (texts_of slots) (texts_of c.put_slot.new.slots.items) c.self.inside.numbers (c.put_slot.ensures.kept free) c.self.invariant
