use Rattle.std.proofs.Common.{◌≡◌, ◌∷◌, [], refl, sym, ap, subst, ◌∙◌, arith}
use Rattle.read_record.specs.Stores.{held_keys, uses_of, HoldsMore}
use Rattle.read_record.specs.KeyLayout.{as_keys}
use Rattle.read_record.proofs.KeyTableLaws.{slot-held, leads-removed, left-after, last_gone, uses-in}
use Rattle.read_record.proofs.key_table.KeyTable.remove.Goals as goal

pub remove-key-requires : goal.remove-key-requires
remove-key-requires c =
    let one : uses_of (as_keys c.self.inside.slots) c.args.number ≡ 1 = ap (λ k. uses_of k c.args.number) c.self.view_is ∙ c.requires in
    slot-held c.self.inside.slots c.args.number (omega (arith, one))

pub invariant_of-self : goal.invariant_of-self
invariant_of-self c =
    let es = c.self.inside.numbers.entries in
    let fs = c.swap_remove.new.self.entries in
    leads-removed es fs c.self.inside.slots c.remove-key.new.self c.args.number c.remove-key.result c.remove-key.result.key c.self.invariant c.remove-key.ensures.value refl c.remove-key.ensures.updates
    (left-after es fs c.remove-key.result.key c.swap_remove.ensures.updates.0)

pub returns : goal.returns
returns c =
    let slots = c.self.inside.slots in
    let one : c.remove-key.result.count ≡ 1 = sym (uses-in slots c.args.number c.remove-key.result c.remove-key.ensures.value) ∙ ap (λ k. uses_of k c.args.number) c.self.view_is ∙ c.requires in
    subst (λ k. HoldsMore (held_keys (as_keys c.remove-key.new.self)) (held_keys k) (c.args.number ∷ [])) c.self.view_is (last_gone slots c.remove-key.new.self c.args.number c.remove-key.result c.remove-key.ensures.value one c.remove-key.ensures.updates)
