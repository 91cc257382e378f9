use Rattle.liquid_grammar.specs.Items.{tag_words}
use Rattle.liquid_parse.proofs.tags.tag_kind.Goals as goal

pub returns : goal.returns
unfolding tag_words
returns c = c.look_up.ensures
