use Rattle.site_text.proofs.Words.{too_short}
use Rattle.site_text.proofs.fronts.begins_in_lower_case.Goals as goal

pub returns-then-text-word : goal.returns-then-text-word
returns-then-text-word c = too_short c.args.word.now c.args.text.now c.if-text-word.true
