use Rattle.std.proofs.Common.{◌≡◌, ◌∙◌, ap, drop, eqb, false, subst, sym, true, ℕ}
use Rattle.std.specs.List.{starts_with}
use Rattle.std.specs.Str.{IsCharBoundary}
use Rattle.std.proofs.lemmas.Str.Pattern.{starts_text}
use Rattle.site_text.proofs.Words.{begins_std}
use Rattle.link_check.proofs.PathLaws.{at_front, not_below}
use Rattle.link_check.proofs.leading.below.Goals as goal

pub returns-in-Some : goal.returns-in-Some
returns-in-Some c =
    let path = c.args.path.now in let base = c.args.base.now in
    let found = c.in-Some.ensures.cases in
    let cut : IsCharBoundary path found.0 = subst (IsCharBoundary path) (sym found.1.0) found.1.2 in
    let begins : true ≡ starts_with eqb path base = starts_text true base path (found.0, found.1, cut) in
    c.after_base.ensures ∙ at_front base path c.in-Some.rest.now (sym (begins ∙ begins_std base path)) (found.2 ∙ ap (λ (n : ℕ). drop n path) found.1.0)

pub returns-in-None : goal.returns-in-None
returns-in-None c =
    let path = c.args.path.now in let base = c.args.base.now in
    let other : false ≡ starts_with eqb path base = starts_text false base path c.in-None.ensures.cases in
    not_below base path (sym (other ∙ begins_std base path))
