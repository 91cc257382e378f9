use Rattle.std.proofs.Common.{sym, ◌∙◌}
use Rattle.filter_base.proofs.NumeralLaws.{whole_numeral}
use Rattle.filter_base.proofs.numerals.text_number.Goals as goal

pub whole_number-requires : goal.whole_number-requires
whole_number-requires c = whole_numeral c.args.text.now (sym c.is_whole.ensures ∙ c.if-is_whole.true)
