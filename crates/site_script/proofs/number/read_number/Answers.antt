use Rattle.std.proofs.Common.{◌≡◌, ◌∙◌, sym, ap, true, arith}
use Rattle.site_script.specs.Number.{is_number}
use Rattle.site_script.proofs.Forms.{no_number}
use Rattle.site_script.proofs.number.read_number.Goals as goal

pub returns-in_default-2-clause-is : goal.returns-in_default-2-clause-is
returns-in_default-2-clause-is c =
    let is : is_number c.args.text.now ≡ true = ap is_number (sym c.as_bytes.ensures.value) ∙ sym c.is_number.ensures ∙ c.if-not-is_number.false in
    no_number c.args.most c.args.text.now c.in_default.field-0 (omega arith) is c.in_default.ensures.value.0
