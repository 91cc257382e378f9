use Rattle.site_sentences.proofs.Saying.{answers_version}
use Rattle.site_sentences.proofs.questions.told_version.Goals as goal

pub returns : goal.returns
returns c = answers_version c.answer_line.result c.version.result.now c.version.ensures c.answer_line.ensures
