use Rattle.std.proofs.Common.{◌≡◌, ◌∷◌, [], None, Some, refl, sym, ap, subst, ◌∙◌}
use Rattle.slab.specs.Slab.{Slab, Updates, get}
use Rattle.read_record.specs.declared.key_table.KeySlot.{KeySlot}
use Rattle.read_record.specs.declared.shared_key.TableKey.{TableKey}
use Rattle.read_record.specs.declared.shared_key.TableKey.TheVariants.{Kept}
use Rattle.read_record.specs.Stores.{held_keys, key_of, HoldsMore}
use Rattle.read_record.specs.KeyLayout.{as_keys, LeadsRight}
use Rattle.read_record.proofs.KeyTableLaws.{at_first, updates_from, leads-added, added_first, key_there}
use Rattle.read_record.proofs.key_table.KeyTable.add.Goals as goal

all : (c : goal.After-insert_reserved) → LeadsRight c.insert.new.self.entries c.insert_reserved.new.self
    × HoldsMore (held_keys (as_keys c.self.inside.slots)) (held_keys (as_keys c.insert_reserved.new.self)) (c.vacant_key-number.result ∷ [])
    × (key_of (as_keys c.insert_reserved.new.self) c.vacant_key-number.result ≡ c.args.key.now)
all c =
    let slots = c.self.inside.slots in
    let number = c.vacant_key-number.result in
    let slot : KeySlot = record { key = c.in_ok-shared.shared; count = 1 } in
    let key : TableKey = Kept c.in_ok-share.field-0 in
    let kept = ap (λ (s : Slab KeySlot). s.slots) c.in_ok-reserve.ensures.rest_kept in
    let free : get slots number ≡ None = at_first slots c.reserve.new.self number kept c.vacant_key-number.ensures.vacant in
    let up : Updates slots c.insert_reserved.new.self number (Some slot) =
    updates_from slots c.reserve.new.self c.insert_reserved.new.self number (Some slot) kept
    (subst (λ k. Updates c.reserve.new.self c.insert_reserved.new.self k (Some slot)) (c.insert_reserved.ensures.key ∙ sym c.vacant_key-number.ensures.value) c.insert_reserved.ensures.updates)
    in (
      leads-added c.self.inside.numbers.entries c.insert.new.self.entries slots c.insert_reserved.new.self number slot key c.self.invariant free up (c.in_ok-shared.ensures ∙ sym c.in_ok-share.ensures) c.in_ok-insert.ensures.updates.0,
      added_first slots c.insert_reserved.new.self number slot free up refl,
      key_there slots c.insert_reserved.new.self number slot up ∙ c.in_ok-shared.ensures,
    )

pub invariant_of-self-2 : goal.invariant_of-self-2
invariant_of-self-2 c = (all c).0

pub returns-clause-held : goal.returns-clause-held
returns-clause-held c =
    subst (λ k. HoldsMore (held_keys k) (held_keys (as_keys c.insert_reserved.new.self)) (c.vacant_key-number.result ∷ [])) c.self.view_is (all c).1

pub returns-clause-key : goal.returns-clause-key
returns-clause-key c = (all c).2
