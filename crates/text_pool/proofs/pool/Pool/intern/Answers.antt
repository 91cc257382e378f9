use Rattle.std.proofs.Common.{◌≡◌, ◌+◌, sym, ap, subst, ◌∙◌, arith}
use Rattle.text_pool.specs.Texts.{held_ids, IsHeld, HaveOneNumber, KeepBytes}
use Rattle.text_pool.proofs.TextLaws.{count_of-le, held_ids-with, held-with, keep-with, one-with}
use Rattle.text_pool.proofs.pool.Pool.intern.Goals as goal

pub intern-requires-clause-fits : goal.intern-requires-clause-fits
intern-requires-clause-fits c =
    let ids : held_ids c.self.inside.table ≡ held_ids c.args.self.now = ap held_ids c.self.view_is in
    λ number. omega (arith, count_of-le c.self.inside.table number, ids, c.requires)

pub invariant_of-self-2 : goal.invariant_of-self-2
invariant_of-self-2 c =
    let table = c.self.inside.table in
    let number = c.in_ok-number.number in
    let bytes = c.args.bytes.now in
    let own : c.self.inside.holds ≡ held_ids table = c.self.invariant.0 in
    let ids : held_ids c.intern.new.self ≡ held_ids table + 1 = ap held_ids c.in_ok-number.ensures.ok ∙ held_ids-with table number bytes in
    (omega (arith, own, ids), subst HaveOneNumber (sym c.in_ok-number.ensures.ok) (one-with table number bytes c.self.invariant.1 c.in_ok-number.ensures.number))

pub returns-clause-holds : goal.returns-clause-holds
returns-clause-holds c =
    ap held_ids c.in_ok-number.ensures.ok ∙ held_ids-with c.self.inside.table c.in_ok-number.number c.args.bytes.now ∙ ap (λ t. held_ids t + 1) c.self.view_is

pub returns-clause-held : goal.returns-clause-held
returns-clause-held c =
    let number = c.in_ok-number.number in
    subst (λ t. IsHeld t c.of.result) (sym c.in_ok-number.ensures.ok) (subst (IsHeld _) (sym c.of.ensures) (held-with c.self.inside.table number c.args.bytes.now))

pub returns-clause-kept : goal.returns-clause-kept
returns-clause-kept c =
    let kept = keep-with c.self.inside.table c.in_ok-number.number c.args.bytes.now c.in_ok-number.ensures.number in
    subst (λ t. KeepBytes t c.intern.new.self) c.self.view_is (subst (KeepBytes c.self.inside.table) (sym c.in_ok-number.ensures.ok) kept)
