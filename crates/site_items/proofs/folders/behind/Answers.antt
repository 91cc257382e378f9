use Rattle.std.proofs.Common.{◌≡◌, true, false, ap, sym, ◌∙◌, refl, drop, eqb, subst}
use Rattle.std.specs.List.{starts_with}
use Rattle.std.specs.Str.{IsCharBoundary}
use Rattle.std.proofs.lemmas.Str.Pattern.{starts_text}
use Rattle.site_items.proofs.folders.behind.Goals as goal

pub returns-in-Some : goal.returns-in-Some
returns-in-Some c =
    let found = c.in-Some.ensures.cases in
    let cut : IsCharBoundary c.args.text.now found.0 = subst (IsCharBoundary c.args.text.now) (sym found.1.0) found.1.2 in
    let begins : true ≡ starts_with eqb c.args.text.now c.args.front.now = starts_text true c.args.front.now c.args.text.now (found.0, found.1, cut) in
    rw (← begins) (found.2 ∙ ap (λ n. drop n c.args.text.now) found.1.0)

pub returns-in-None : goal.returns-in-None
returns-in-None c =
    let other : false ≡ starts_with eqb c.args.text.now c.args.front.now = starts_text false c.args.front.now c.args.text.now c.in-None.ensures.cases in
    rw (← other) refl
