use Rattle.std.proofs.Common.{◌∙◌}
use Rattle.site_sentences.proofs.Saying.{says_usage}
use Rattle.site_sentences.proofs.lines.usage_lines.Goals as goal

pub returns : goal.returns
returns c = says_usage c.args.kind c.usage_sentence.result.now _ c.usage_sentence.ensures c.in_ok-push_str.ensures.bytes c.in_ok-text.ensures (c.as_str.ensures.value ∙ c.in_ok-code.ensures)
