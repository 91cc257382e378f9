use Rattle.std.proofs.Common.{◌≡◌, ◌∙◌, IfOk, List, ap, false, subst, sym, ℕ, ◌==◌}
use Rattle.std.specs.List.{list_any}
use Rattle.link_check.specs.Targets as targets
use Rattle.link_check.proofs.ValueLaws.{none_plain}
use Rattle.link_check.proofs.leading.target.Goals as goal

pub returns-then-not-contains : goal.returns-then-not-contains
returns-then-not-contains c =
    let value = c.args.value.now in
    let bytes = c.as_bytes-value.ensures.value in
    let none : list_any (λ y. y == 38) value ≡ false = sym (c.contains.ensures.value ∙ ap (list_any (λ y. y == 38)) bytes) ∙ c.if-not-contains.true in
    subst (λ (v : List ℕ). IfOk c.plain_target.result (λ leads. leads ≡ targets.plain_target c.args.from.now c.args.base.now v)) (bytes ∙ sym (none_plain value none)) c.plain_target.ensures
