use Rattle.std.proofs.Common.{ap, ◌∙◌}
use Rattle.markdown_grammar.specs.Autolinks.{email, pointed}
use Rattle.cm_spans.proofs.ClosedBy.{pointed_found}
use Rattle.cm_spans.proofs.autolinks.email.Goals as goal

pub returns-clause-cuts : goal.returns-clause-cuts
returns-clause-cuts c = pointed_found email c.pointed_email.result c.args.text.now c.utf8.text (c.pointed_email.ensures.value ∙ ap (pointed email) c.as_bytes.ensures.value)
