use Rattle.std.proofs.Common.{ap, ◌∙◌}
use Rattle.read_record.specs.Queries.{Known}
use Rattle.read_record.specs.Records.{agreement_of}
use Rattle.site_base.specs.Plain.{Plain, text}
use Rattle.site_world.proofs.FileTexts.{file_of_words, file_of_none}
use Rattle.site_world.proofs.found.file_agrees.Goals as goal

pub returns-in-Ok : goal.returns-in-Ok
returns-in-Ok c =
    c.words_agree.ensures
    ∙ ap (λ (v : Plain). agreement_of (Known v) c.args.seen.now)
    (ap text c.as_bytes.ensures.value ∙ file_of_words c.args.bytes.now c.as_slice.result.now c.in-Ok.words.now c.as_slice.ensures c.in-Ok.ensures.cases.0 c.in-Ok.ensures.cases.1)

pub returns-in-Err : goal.returns-in-Err
returns-in-Err c =
    c.value_agrees.ensures
    ∙ ap (λ (v : Plain). agreement_of (Known v) c.args.seen.now) (file_of_none c.args.bytes.now c.as_slice.result.now c.as_slice.ensures c.in-Err.ensures.cases.0)
