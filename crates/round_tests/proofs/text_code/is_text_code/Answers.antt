use Rattle.site_base.proofs.PastLaws.{is_whole, is_other}
use Rattle.round_tests.proofs.text_code.is_text_code.Goals as goal

pub returns-in-Some : goal.returns-in-Some
returns-in-Some c = is_whole _ _ _ _ c.in-Some.ensures c.is_empty.ensures

pub returns-in-None : goal.returns-in-None
returns-in-None c = is_other _ _ c.in-None.ensures
