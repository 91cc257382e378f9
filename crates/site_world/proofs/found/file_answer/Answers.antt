use Rattle.std.proofs.Common.{ap, subst, sym}
use Rattle.read_record.specs.Answers.{IsReply}
use Rattle.read_record.specs.Queries.{Known}
use Rattle.site_base.specs.Plain.{Plain}
use Rattle.site_world.proofs.FileTexts.{file_of_words, file_of_none}
use Rattle.site_world.proofs.found.file_answer.Goals as goal

pub returns-in-Ok : goal.returns-in-Ok
returns-in-Ok c =
    let P : Plain → Type 0 = λ v. IsReply (Known v) c.words_of.result in
    subst P (file_of_words c.args.bytes.now c.as_slice.result.now c.in-Ok.words.now c.as_slice.ensures c.in-Ok.ensures.cases.0 c.in-Ok.ensures.cases.1) c.words_of.ensures

pub returns-in-Err : goal.returns-in-Err
returns-in-Err c = ap Known (sym (file_of_none c.args.bytes.now c.as_slice.result.now c.as_slice.ensures c.in-Err.ensures.cases.0))
