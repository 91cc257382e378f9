use Rattle.std.proofs.Common.{◌≡◌, ◌+◌, sym, ap, subst, ◌∙◌, arith}
use Rattle.text_pool.specs.Texts.{held_ids, IsHeld, HaveOneNumber, KeepBytes}
use Rattle.text_pool.proofs.TextLaws.{count_of-le, held_ids-without, keep-without, one-without}
use Rattle.text_pool.proofs.pool.Pool.give_back.Goals as goal

pub overflow_sub-self : goal.overflow_sub-self
overflow_sub-self c =
    let ids : held_ids c.self.inside.table ≡ held_ids c.args.self.now = ap held_ids c.self.view_is in
    let own : c.self.inside.holds ≡ held_ids c.self.inside.table = c.self.invariant.0 in
    omega (arith, own, ids, count_of-le c.args.self.now c.args.id, c.requires)

pub invariant_of-self : goal.invariant_of-self
invariant_of-self c =
    let table = c.self.inside.table in
    let number = c.number.result in
    let own : c.self.inside.holds ≡ held_ids table = c.self.invariant.0 in
    let held : IsHeld table number = subst (λ q. IsHeld table q) (sym c.number.ensures) (subst (λ t. IsHeld t c.args.id) (sym c.self.view_is) c.requires) in
    let ids : held_ids c.release.new.self + 1 ≡ held_ids table = ap (λ t. held_ids t + 1) c.release.ensures ∙ held_ids-without table number held in
    (omega (arith, own, ids), subst HaveOneNumber (sym c.release.ensures) (one-without table number held c.self.invariant.1))

pub returns-clause-holds : goal.returns-clause-holds
returns-clause-holds c =
    let table = c.self.inside.table in
    let number = c.number.result in
    let held : IsHeld table number = subst (λ q. IsHeld table q) (sym c.number.ensures) (subst (λ t. IsHeld t c.args.id) (sym c.self.view_is) c.requires) in
    ap (λ t. held_ids t + 1) c.release.ensures ∙ held_ids-without table number held ∙ ap held_ids c.self.view_is

pub returns-clause-kept : goal.returns-clause-kept
returns-clause-kept c =
    let table = c.self.inside.table in
    subst (λ t. KeepBytes t c.release.new.self) c.self.view_is (subst (KeepBytes table) (sym c.release.ensures) (keep-without table c.number.result))
