use Rattle.std.proofs.Common.{◌≡◌, ◌+◌, sym, ap, subst, ◌∙◌, arith}
use Rattle.text_pool.specs.Texts.{held_ids, bytes_of, IsHeld, HaveOneNumber, KeepBytes}
use Rattle.text_pool.proofs.TextLaws.{count_of-le, held_ids-with, held-with, keep-with, one-with, own_number}
use Rattle.text_pool.proofs.pool.Pool.again.Goals as goal

pub hold-requires-clause-fits : goal.hold-requires-clause-fits
hold-requires-clause-fits c =
    let ids : held_ids c.self.inside.table ≡ held_ids c.args.self.now = ap held_ids c.self.view_is in
    omega (arith, count_of-le c.self.inside.table c.number.result, ids, c.requires.room)

pub invariant_of-self : goal.invariant_of-self
invariant_of-self c =
    let table = c.self.inside.table in
    let number = c.number.result in
    let own : c.self.inside.holds ≡ held_ids table = c.self.invariant.0 in
    let ids : held_ids c.hold.new.self ≡ held_ids table + 1 = ap held_ids c.hold.ensures ∙ held_ids-with table number (bytes_of table number) in
    let held : IsHeld table number = subst (λ q. IsHeld table q) (sym c.number.ensures) (subst (λ t. IsHeld t c.args.id.now) (sym c.self.view_is) c.requires.held) in
    (omega (arith, own, ids), subst HaveOneNumber (sym c.hold.ensures) (one-with table number (bytes_of table number) c.self.invariant.1 (own_number table number c.self.invariant.1 held)))

pub returns-clause-holds : goal.returns-clause-holds
returns-clause-holds c =
    ap held_ids c.hold.ensures ∙ held_ids-with c.self.inside.table c.number.result (bytes_of c.self.inside.table c.number.result) ∙ ap (λ t. held_ids t + 1) c.self.view_is

pub returns-clause-held : goal.returns-clause-held
returns-clause-held c =
    let table = c.self.inside.table in
    let number = c.number.result in
    subst (λ t. IsHeld t c.of.result) (sym c.hold.ensures)
    (subst (IsHeld _) (c.number.ensures ∙ sym c.number-2.ensures ∙ sym c.of.ensures) (held-with table number (bytes_of table number)))

pub returns-clause-kept : goal.returns-clause-kept
returns-clause-kept c =
    let table = c.self.inside.table in
    let number = c.number.result in
    let held : IsHeld table number = subst (λ q. IsHeld table q) (sym c.number.ensures) (subst (λ t. IsHeld t c.args.id.now) (sym c.self.view_is) c.requires.held) in
    let kept = keep-with table number (bytes_of table number) (own_number table number c.self.invariant.1 held) in
    subst (λ t. KeepBytes t c.hold.new.self) c.self.view_is (subst (KeepBytes table) (sym c.hold.ensures) kept)
