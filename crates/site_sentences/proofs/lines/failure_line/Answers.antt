use Rattle.std.proofs.Common.{[], refl, ◌∙◌}
use Rattle.site_sentences.proofs.Saying.{says}
use Rattle.site_sentences.proofs.lines.failure_line.Goals as goal

pub returns : goal.returns
returns c = says c.line.result c.failure_sentence.result.now [] c.failure_sentence.ensures refl (c.as_str.ensures.value ∙ c.in_ok-code.ensures) c.line.ensures
