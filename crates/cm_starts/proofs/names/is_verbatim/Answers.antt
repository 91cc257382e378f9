use Rattle.markdown_grammar.specs.HtmlStarts.{verbatim_names}
use Rattle.cm_starts.proofs.names.is_verbatim.Goals as goal

pub returns : goal.returns
unfolding verbatim_names
returns c = c.is_among.ensures
