use Rattle.std.proofs.Common.{ap, subst, ◌∙◌}
use Rattle.site_words.specs.Words.{Answers, command_order}
use Rattle.site_words.proofs.Gathering.{first_is_command, texts}
use Rattle.site_words.proofs.reading.read_words.Goals as goal

pub returns-in-Ok : goal.returns-in-Ok
returns-in-Ok c =
    let rest = ap texts c.as_slice.ensures.value ∙ c.in-Ok.ensures in
    subst (λ o. Answers o c.read_command.result) (ap (command_order c.at.result.now) rest ∙ first_is_command c.args.words.now c.at.result.now c.at.ensures) c.read_command.ensures
