use Rattle.std.proofs.Common.{◌≡◌, ap, sym, ◌∙◌, lit<, Some, true}
use Rattle.std.proofs.lemmas.Str.Pattern.{split_once_first}
use Rattle.filter_base.specs.Numerals.{is_whole, is_digits}
use Rattle.filter_base.proofs.NumeralLaws.{decimal_parts}
use Rattle.filter_base.proofs.numerals.is_decimal.Goals as goal

pub returns-then-is_whole : goal.returns-then-is_whole
returns-then-is_whole c =
    let text = c.args.text.now in
    let cut = split_once_first 46 text (Some (c.in-Some.front, c.in-Some.digits)) c.in-Some.ensures.cases (lit< tt) in
    let whole : is_whole c.in-Some.front.now ≡ true = sym c.is_whole.ensures ∙ c.if-is_whole.true in
    c.is_digits.ensures ∙ ap is_digits c.as_bytes.ensures.value ∙ decimal_parts text c.in-Some.front.now c.in-Some.digits.now cut.0 cut.1 cut.2 whole
