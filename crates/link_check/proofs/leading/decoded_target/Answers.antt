use Rattle.std.proofs.Common.{◌≡◌, ◌∙◌, Bool, IfOk, Some, ap, cond, subst, sym, true}
use Rattle.std.specs.Str.{is_utf8}
use Rattle.std.proofs.lemmas.Str.{is_utf8-from_IsUtf8}
use Rattle.link_check.specs.declared.leading.LinkTarget.{LinkTarget}
use Rattle.link_check.specs.declared.leading.LinkTarget.TheVariants.{Bad}
use Rattle.link_check.specs.Targets.{decoded_target, placed}
use Rattle.link_check.proofs.Comments.{not_utf8}
use Rattle.link_check.proofs.leading.decoded_target.Goals as goal

pub returns-in-Ok : goal.returns-in-Ok
returns-in-Ok c =
    let bytes = c.args.bytes.now in let at = placed c.args.from.now c.args.base.now in
    let fits : is_utf8 bytes ≡ true = is_utf8-from_IsUtf8 bytes c.in-Ok.ensures.cases.1 in
    let same : at c.in-Ok.text.now ≡ decoded_target c.args.from.now c.args.base.now (Some bytes) = ap at c.in-Ok.ensures.cases.0 ∙ ap (λ (b : Bool). cond b (at bytes) Bad) (sym fits) in
    subst (λ (t : LinkTarget). IfOk c.placed.result (λ leads. leads ≡ t)) same c.placed.ensures

pub returns-in-Err : goal.returns-in-Err
returns-in-Err c =
    let bytes = c.args.bytes.now in
    ap (λ (b : Bool). cond b (placed c.args.from.now c.args.base.now bytes) Bad) (sym (not_utf8 bytes c.in-Err.ensures.cases.0))
