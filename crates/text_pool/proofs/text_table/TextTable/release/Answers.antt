use Rattle.std.proofs.Common.{◌≡◌, ◌-◌, sym, ap, subst, ◌∙◌, arith}
use Rattle.std.specs.FinMap.{insert}
use Rattle.slab.proofs.SlabLemmas.{Updates-with_value}
use Rattle.text_pool.specs.declared.text_table.Slot.{Slot}
use Rattle.text_pool.specs.Layout.{as_texts}
use Rattle.text_pool.specs.Texts.{IsHeld, bytes_of, count_of, without_id}
use Rattle.text_pool.proofs.TextLaws.{without_more, without_last}
use Rattle.text_pool.proofs.TableLaws.{key_there, count-at, some_inj, sound-counted, texts-counted}
use Rattle.text_pool.proofs.text_table.TextTable.release.Goals as goal

pub index-requires : goal.index-requires
index-requires c = key_there c.self.inside.numbers.entries c.self.inside.slots c.self.invariant c.args.number (subst (λ t. IsHeld t c.args.number) (sym c.self.view_is) c.requires)

pub invariant_of-self : goal.invariant_of-self
invariant_of-self c =
    let es = c.self.inside.numbers.entries in
    let slots = c.self.inside.slots in
    let number = c.args.number in
    let slot = c.index_mut.result.now in
    let there = key_there es slots c.self.invariant number (subst (λ t. IsHeld t number) (sym c.self.view_is) c.requires) in
    let count : c.index.result.now.count ≡ slot.count = ap (λ (s : Slot). s.count) (some_inj c.index.result.now slot (sym c.index.ensures ∙ c.index_mut.ensures.value)) in
    sound-counted es slots _ number slot (slot.count - 1) c.self.invariant c.index_mut.ensures.value (Updates-with_value slots number _ there) (omega (arith, count, c.if-index-gt1.true))

pub returns-then-index-gt1 : goal.returns-then-index-gt1
returns-then-index-gt1 c =
    let es = c.self.inside.numbers.entries in
    let slots = c.self.inside.slots in
    let number = c.args.number in
    let slot = c.index_mut.result.now in
    let texts = as_texts es slots in
    let there = key_there es slots c.self.invariant number (subst (λ t. IsHeld t number) (sym c.self.view_is) c.requires) in
    let same : c.index.result.now.count ≡ slot.count = ap (λ (s : Slot). s.count) (some_inj c.index.result.now slot (sym c.index.ensures ∙ c.index_mut.ensures.value)) in
    let count : count_of texts number ≡ slot.count = count-at es slots c.self.invariant number slot c.index_mut.ensures.value in
    texts-counted es slots _ number slot (slot.count - 1) c.self.invariant c.index_mut.ensures.value (Updates-with_value slots number _ there) (omega (arith, same, c.if-index-gt1.true))
    ∙ ap (λ n. insert texts number (record { bytes = bytes_of texts number; count = n - 1 })) (sym count)
    ∙ sym (without_more texts number (omega (arith, same, count, c.if-index-gt1.true)))
    ∙ ap (λ t. without_id t number) c.self.view_is

pub returns-else-index-gt1 : goal.returns-else-index-gt1
returns-else-index-gt1 c =
    let es = c.self.inside.numbers.entries in
    let slots = c.self.inside.slots in
    let count : count_of c.args.self.now c.args.number ≡ c.index.result.now.count =
    ap (λ t. count_of t c.args.number) (sym c.self.view_is) ∙ count-at es slots c.self.invariant c.args.number c.index.result.now c.index.ensures
    in
    c.remove.ensures ∙ sym (without_last c.args.self.now c.args.number (omega (arith, count, c.if-index-gt1.false)))
