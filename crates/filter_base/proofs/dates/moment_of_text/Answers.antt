use Rattle.std.proofs.Common.{◌≡◌, ◌∙◌, ap, sym, Bool, false, cond}
use Rattle.std.proofs.lemmas.Int.{to_z-of_z}
use Rattle.site_dates.specs.Moment.{read_moment}
use Rattle.filter_base.specs.Dates.{moment_of_digits, moment_of_text}
use Rattle.filter_base.specs.Numerals.{is_digits}
use Rattle.filter_base.proofs.dates.moment_of_text.Goals as goal

pub returns-else-is_digits-clause-is : goal.returns-else-is_digits-clause-is
unfolding moment_of_text
returns-else-is_digits-clause-is c =
    let text = c.args.text.now in let offset = c.args.offset in
    let none : is_digits text ≡ false = ap is_digits (sym c.as_bytes.ensures.value) ∙ sym c.is_digits.ensures ∙ c.if-is_digits.false in
    (simp (to_z-of_z, c.ranges.offset) at c.read_moment.ensures.is) ∙ ap (λ (b : Bool). cond b (moment_of_digits text) (read_moment text offset)) (sym none)
