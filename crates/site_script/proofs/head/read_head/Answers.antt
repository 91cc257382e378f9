use Rattle.std.proofs.Common.{◌≡◌, subst, sym, ap, ◌∙◌}
use Rattle.std.specs.Result.{IfOk}
use Rattle.site_script.specs.Script.{form_of}
use Rattle.site_script.specs.declared.head.Head.{Head}
use Rattle.site_script.proofs.Forms.{text_head, no_text_head}
use Rattle.site_script.proofs.head.read_head.Goals as goal

pub returns-in-Ok : goal.returns-in-Ok
returns-in-Ok c =
    let cases = c.in-Ok.ensures.cases in
    subst (λ (h : Head). IfOk c.read_form.result (λ head. head ≡ h))
    (ap form_of cases.0 ∙ sym (text_head c.args.content.now c.if-content-gt-MOST_LINE_BYTES.false cases.1))
    c.read_form.ensures

pub returns-in-Err : goal.returns-in-Err
returns-in-Err c = no_text_head c.args.content.now c.if-content-gt-MOST_LINE_BYTES.false c.in-Err.ensures.cases.0
