use Rattle.std.proofs.Common.{◌≡◌, ◌+◌, sym, ap, subst, ◌∙◌, arith}
use Rattle.std.specs.FinMap.{insert}
use Rattle.slab.proofs.SlabLemmas.{Updates-with_value}
use Rattle.text_pool.specs.Layout.{as_texts}
use Rattle.text_pool.specs.Texts.{IsHeld, bytes_of, count_of, with_id}
use Rattle.text_pool.proofs.TableLaws.{key_there, count-at, sound-counted, texts-counted}
use Rattle.text_pool.proofs.text_table.TextTable.hold.Goals as goal

pub index_mut-requires : goal.index_mut-requires
index_mut-requires c = key_there c.self.inside.numbers.entries c.self.inside.slots c.self.invariant c.args.number (subst (λ t. IsHeld t c.args.number) (sym c.self.view_is) c.requires.held)

pub overflow_add-index_mut : goal.overflow_add-index_mut
overflow_add-index_mut c =
    let count : count_of c.args.self.now c.args.number ≡ c.index_mut.result.now.count =
    ap (λ t. count_of t c.args.number) (sym c.self.view_is)
    ∙ count-at c.self.inside.numbers.entries c.self.inside.slots c.self.invariant c.args.number c.index_mut.result.now c.index_mut.ensures.value
    in
    omega (arith, count, c.requires.fits)

pub invariant_of-self : goal.invariant_of-self
invariant_of-self c =
    let there = key_there c.self.inside.numbers.entries c.self.inside.slots c.self.invariant c.args.number (subst (λ t. IsHeld t c.args.number) (sym c.self.view_is) c.requires.held) in
    sound-counted c.self.inside.numbers.entries c.self.inside.slots _ c.args.number c.index_mut.result.now (c.index_mut.result.now.count + 1) c.self.invariant c.index_mut.ensures.value
    (Updates-with_value c.self.inside.slots c.args.number _ there)
    (omega arith)

pub returns : goal.returns
returns c =
    let es = c.self.inside.numbers.entries in
    let slots = c.self.inside.slots in
    let number = c.args.number in
    let slot = c.index_mut.result.now in
    let there = key_there es slots c.self.invariant number (subst (λ t. IsHeld t number) (sym c.self.view_is) c.requires.held) in
    texts-counted es slots _ number slot (slot.count + 1) c.self.invariant c.index_mut.ensures.value (Updates-with_value slots number _ there) (omega arith)
    ∙ ap (λ n. insert (as_texts es slots) number (record { bytes = bytes_of (as_texts es slots) number; count = n + 1 })) (sym (count-at es slots c.self.invariant number slot c.index_mut.ensures.value))
    ∙ ap (λ t. with_id t number (bytes_of t number)) c.self.view_is
