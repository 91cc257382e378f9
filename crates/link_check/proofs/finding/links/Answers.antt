use Rattle.std.proofs.Common.{◌≡◌, ◌∙◌, Bool, IfOk, List, [], ℕ, ap, cond, subst, sym, true}
use Rattle.std.specs.Str.{is_utf8}
use Rattle.std.proofs.lemmas.Str.{is_utf8-from_IsUtf8}
use Rattle.link_check.specs.Links.{found, links}
use Rattle.link_check.proofs.Comments.{not_utf8}
use Rattle.link_check.proofs.finding.links.Goals as goal

pub returns-in-Ok : goal.returns-in-Ok
returns-in-Ok c =
    let html = c.args.html.now in
    let fits : is_utf8 html ≡ true = is_utf8-from_IsUtf8 html c.in-Ok.ensures.cases.1 in
    let same : found c.in-Ok.text.now ≡ links html = ap found c.in-Ok.ensures.cases.0 ∙ ap (λ (b : Bool). cond b (found html) []) (sym fits) in
    subst (λ (vs : List (List ℕ)). IfOk c.found.result (λ list. list ≡ vs)) same c.found.ensures

pub returns-in-Err : goal.returns-in-Err
returns-in-Err c =
    let html = c.args.html.now in
    c.new.ensures ∙ ap (λ (b : Bool). cond b (found html) []) (sym (not_utf8 html c.in-Err.ensures.cases.0))
