use Rattle.std.proofs.Common.{ap, ◌∙◌}
use Rattle.markdown_grammar.specs.Tags.{html_tag}
use Rattle.cm_spans.proofs.ClosedBy.{html_found}
use Rattle.cm_spans.proofs.tags.html_tag.Goals as goal

pub returns-clause-ends : goal.returns-clause-ends
returns-clause-ends c = html_found c.tag.result c.args.text.now c.utf8.text (c.tag.ensures.value ∙ ap html_tag c.as_bytes.ensures.value)
