use Rattle.site_base.proofs.value.matching.+past_decimal.Given as goal

abbrev pub decreases-past_decimal : goal.decreases-past_decimal
decreases-past_decimal l = l.number
