use Rattle.std.proofs.Common.{◌≡◌, ◌<◌, ◌-◌, ◌+◌, ◌∷◌, [], refl, sym, ap, subst, ◌∙◌, arith}
use Rattle.slab.specs.Slab.{with_value}
use Rattle.slab.proofs.SlabLemmas.{Updates-with_value}
use Rattle.read_record.specs.declared.key_table.KeySlot.{KeySlot}
use Rattle.read_record.specs.Stores.{held_keys, uses_of, HoldsMore}
use Rattle.read_record.specs.KeyLayout.{as_keys}
use Rattle.read_record.proofs.KeyTableLaws.{slot-held, some_inj, leads-counted, counted_down, uses-in}
use Rattle.read_record.proofs.key_table.KeyTable.release.Goals as goal

pub index-requires : goal.index-requires
index-requires c = slot-held c.self.inside.slots c.args.number (subst (λ k. 0 < uses_of k c.args.number) (sym c.self.view_is) c.requires)

pub invariant_of-self : goal.invariant_of-self
invariant_of-self c =
    let slots = c.self.inside.slots in
    let slot = c.index_mut.result.now in
    let there = slot-held slots c.args.number (subst (λ k. 0 < uses_of k c.args.number) (sym c.self.view_is) c.requires) in
    leads-counted c.self.inside.numbers.entries slots _ c.args.number _ slot c.self.invariant c.index_mut.ensures.value (Updates-with_value slots c.args.number (record { key = slot.key; count = slot.count - 1 }) there) refl

pub returns-then-index-gt1 : goal.returns-then-index-gt1
returns-then-index-gt1 c =
    let slots = c.self.inside.slots in
    let slot = c.index_mut.result.now in
    let new : KeySlot = record { key = slot.key; count = slot.count - 1 } in
    let there = slot-held slots c.args.number (subst (λ k. 0 < uses_of k c.args.number) (sym c.self.view_is) c.requires) in
    let same : c.index.result.now.count ≡ slot.count = ap (λ (s : KeySlot). s.count) (some_inj c.index.result.now slot (sym c.index.ensures ∙ c.index_mut.ensures.value)) in
    let less : slot.count ≡ slot.count - 1 + 1 = omega (arith, same, c.if-index-gt1.true) in
    subst (λ k. HoldsMore (held_keys (as_keys (with_value slots c.args.number new))) (held_keys k) (c.args.number ∷ [])) c.self.view_is
    (counted_down slots (with_value slots c.args.number new) c.args.number slot new c.index_mut.ensures.value (Updates-with_value slots c.args.number new there) refl less)

pub remove-requires : goal.remove-requires
remove-requires c =
    let slots = c.self.inside.slots in
    let count : uses_of c.args.self.now c.args.number ≡ c.index.result.now.count = ap (λ k. uses_of k c.args.number) (sym c.self.view_is) ∙ uses-in slots c.args.number c.index.result.now c.index.ensures in
    omega (arith, count, c.requires, c.if-index-gt1.false)
