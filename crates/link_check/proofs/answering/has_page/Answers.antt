use Rattle.std.proofs.Common.{◌≡◌, ◌∙◌, ◌++◌, Bool, IfOk, ap, codes, cond, false, subst, sym, true}
use Rattle.link_check.specs.Answered.{is_one}
use Rattle.link_check.proofs.answering.has_page.Goals as goal

pub returns : goal.returns
returns g c =
    let has = g.P.Paths.paths c.args.paths.now in let path = c.args.path.now in
    let index = is_one has (path ++ codes "/index.html") in
    let none : is_one has (path ++ codes ".html") ≡ false = sym c.in_ok-has_with.ensures ∙ c.if-branch.false in
    subst (λ (b : Bool). IfOk c.has_with-2.result (λ answer. answer ≡ b)) (ap (λ (b : Bool). cond b true index) (sym none)) c.has_with-2.ensures
