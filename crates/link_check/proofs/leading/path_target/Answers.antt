use Rattle.std.proofs.Common.{◌≡◌, ◌∙◌, IfOk, List, Option, false, subst, sym, ℕ, ◌==◌}
use Rattle.std.specs.List.{list_any}
use Rattle.link_check.specs.Targets.{decoded_target}
use Rattle.link_check.proofs.ValueLaws.{none_decoded}
use Rattle.link_check.proofs.leading.path_target.Goals as goal

pub returns-then-not-contains : goal.returns-then-not-contains
returns-then-not-contains c =
    let path = c.args.path.now in
    let none : list_any (λ y. y == 37) path ≡ false = sym c.contains.ensures.value ∙ c.if-not-contains.true in
    subst (λ (t : Option (List ℕ)). IfOk c.decoded_target.result (λ leads. leads ≡ decoded_target c.args.from.now c.args.base.now t)) (sym (none_decoded path none)) c.decoded_target.ensures
