use Rattle.round_tests.proofs.text_code.+past_number.Given as goal

abbrev pub decreases-past_number : goal.decreases-past_number
decreases-past_number l = l.number
