use Rattle.site_sentences.proofs.Saying.{answers_help}
use Rattle.site_sentences.proofs.questions.help.Goals as goal

pub returns : goal.returns
returns c = answers_help c.purpose.result.now _ c.purpose.ensures c.in_ok-push_str.ensures.bytes c.in_ok-text.ensures
