use Rattle.std.proofs.Common.{◌≡◌, ◌+◌, ◌∷◌, [], refl, sym, ap, subst, ◌∙◌, arith}
use Rattle.slab.specs.Slab.{with_value}
use Rattle.slab.proofs.SlabLemmas.{Updates-with_value}
use Rattle.read_record.specs.declared.key_table.KeySlot.{KeySlot}
use Rattle.read_record.specs.Stores.{held_keys, key_of, IsThere, HoldsMore}
use Rattle.read_record.specs.KeyLayout.{as_keys}
use Rattle.read_record.proofs.KeyTableLaws.{slot-there, some_inj, leads-counted, counted_up, key_there, key-at-number}
use Rattle.read_record.proofs.key_table.KeyTable.hold_again.Goals as goal

pub index-requires : goal.index-requires
index-requires c = slot-there c.self.inside.slots c.args.number (subst (λ k. IsThere k c.args.number) (sym c.self.view_is) c.requires)

pub index_mut-requires : goal.index_mut-requires
index_mut-requires c = slot-there c.self.inside.slots c.args.number (subst (λ k. IsThere k c.args.number) (sym c.self.view_is) c.requires)

pub overflow_add-index_mut : goal.overflow_add-index_mut
overflow_add-index_mut c =
    let same : c.index.result.now.count ≡ c.index_mut.result.now.count = ap (λ (s : KeySlot). s.count) (some_inj c.index.result.now c.index_mut.result.now (sym c.index.ensures ∙ c.index_mut.ensures.value)) in
    omega (arith, same, c.if-index-gt-MOST_READS.false)

pub invariant_of-self : goal.invariant_of-self
invariant_of-self c =
    let slots = c.self.inside.slots in
    let slot = c.index_mut.result.now in
    let there = slot-there slots c.args.number (subst (λ k. IsThere k c.args.number) (sym c.self.view_is) c.requires) in
    leads-counted c.self.inside.numbers.entries slots _ c.args.number _ slot c.self.invariant c.index_mut.ensures.value (Updates-with_value slots c.args.number (record { key = slot.key; count = slot.count + 1 }) there) refl

pub returns-clause-held : goal.returns-clause-held
returns-clause-held c =
    let slots = c.self.inside.slots in
    let slot = c.index_mut.result.now in
    let new : KeySlot = record { key = slot.key; count = slot.count + 1 } in
    let there = slot-there slots c.args.number (subst (λ k. IsThere k c.args.number) (sym c.self.view_is) c.requires) in
    subst (λ k. HoldsMore (held_keys k) (held_keys (as_keys (with_value slots c.args.number new))) (c.args.number ∷ [])) c.self.view_is
    (counted_up slots (with_value slots c.args.number new) c.args.number slot new c.index_mut.ensures.value (Updates-with_value slots c.args.number new there) refl refl)

pub returns-clause-key : goal.returns-clause-key
returns-clause-key c =
    let slots = c.self.inside.slots in
    let slot = c.index_mut.result.now in
    let new : KeySlot = record { key = slot.key; count = slot.count + 1 } in
    let there = slot-there slots c.args.number (subst (λ k. IsThere k c.args.number) (sym c.self.view_is) c.requires) in
    key_there slots (with_value slots c.args.number new) c.args.number new (Updates-with_value slots c.args.number new there)
    ∙ sym (key-at-number slots c.args.number slot c.index_mut.ensures.value)
    ∙ ap (λ k. key_of k c.args.number) c.self.view_is
