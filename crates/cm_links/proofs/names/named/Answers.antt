use Rattle.markdown_grammar.specs.CharacterNames.{character_names}
use Rattle.cm_links.proofs.names.named.Goals as goal

pub returns : goal.returns
unfolding character_names
returns c = c.look_up.ensures
