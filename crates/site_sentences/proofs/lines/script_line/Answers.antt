use Rattle.std.proofs.Common.{◌∙◌}
use Rattle.site_sentences.proofs.Saying.{says}
use Rattle.site_sentences.proofs.lines.script_line.Goals as goal

pub returns : goal.returns
returns c = says c.line.result c.script_sentence.result.now _ c.script_sentence.ensures (c.as_str.ensures.value ∙ c.in_ok-place.ensures) (c.as_str-2.ensures.value ∙ c.in_ok-code.ensures) c.line.ensures
