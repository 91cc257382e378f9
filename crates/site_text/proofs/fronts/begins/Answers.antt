use Rattle.std.proofs.Common.{◌∙◌}
use Rattle.site_text.proofs.Words.{begins_std}
use Rattle.site_text.proofs.fronts.begins.Goals as goal

pub returns-clause-value : goal.returns-clause-value
returns-clause-value c = c.starts_with.ensures.value ∙ begins_std c.args.word.now c.args.text.now
