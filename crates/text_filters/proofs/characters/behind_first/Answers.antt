use Rattle.text_filters.proofs.CharacterLaws.{first_char}
use Rattle.text_filters.proofs.characters.behind_first.Goals as goal

pub returns-clause-characters : goal.returns-clause-characters
returns-clause-characters c =
    first_char c.args.text.now c.as_str.result.now c.chars-characters.result c.next.new.self c.next.result c.chars-characters.ensures.rest c.as_str.ensures c.next.ensures.steps c.requires c.utf8.text
