use Rattle.markdown_grammar.specs.HtmlStarts.{block_names}
use Rattle.cm_starts.proofs.names.is_block.Goals as goal

pub returns : goal.returns
unfolding block_names
returns c = c.is_among.ensures
