use Rattle.cm_blocks.proofs.HtmlLaws.{same_html}
use Rattle.cm_blocks.proofs.laws.documents_have_the_html_of_their_blocks.Goals as goal

pub returns : goal.returns
returns c = same_html
