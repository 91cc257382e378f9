use Rattle.std.proofs.Common.{◌∙◌, arith, sym}
use Rattle.std.proofs.lemmas.List.{nil_from_length}
use Rattle.site_world.proofs.Digits.{not_empty, other_last, small, large}
use Rattle.site_world.proofs.text_code.+is_decimal.Goals as goal

pub returns-in_default : goal.returns-in_default
returns-in_default t c =
    (λ h. cc, λ e. absurd (not_empty c.args.number (sym (nil_from_length c.args.digits.now c.in_default.ensures.cases) ∙ e)))

pub returns-then-last-number : goal.returns-then-last-number
returns-then-last-number t c =
    (λ h. cc, λ e. absurd (other_last c.args.digits.now c.in-Some.rest.now c.in-Some.last.now c.args.number c.in-Some.ensures.cases.0 c.if-last-number.true e))

pub returns-then-number-lt10 : goal.returns-then-number-lt10
returns-then-number-lt10 t c =
    let told = small c.args.digits.now c.in-Some.rest.now c.in-Some.last.now c.args.number c.in-Some.ensures.cases.0 c.if-number-lt10.true c.if-last-number.false in
    (λ h. told.0 (grind arith), λ e. let none = told.1 e in grind arith)

pub returns-else-number-lt10 : goal.returns-else-number-lt10
returns-else-number-lt10 t c =
    let told = large c.args.digits.now c.in-Some.rest.now c.in-Some.last.now c.args.number c.in-Some.ensures.cases.0 c.if-number-lt10.false c.if-last-number.false in
    (λ h. told.0 (c.is_decimal.ensures.0 h), λ e. c.is_decimal.ensures.1 (told.1 e))
