use Rattle.std.proofs.Common.{ap, ◌∙◌}
use Rattle.markdown_grammar.specs.Autolinks.{pointed, uri}
use Rattle.cm_spans.proofs.ClosedBy.{pointed_found}
use Rattle.cm_spans.proofs.autolinks.uri.Goals as goal

pub returns-clause-cuts : goal.returns-clause-cuts
returns-clause-cuts c = pointed_found uri c.pointed_uri.result c.args.text.now c.utf8.text (c.pointed_uri.ensures.value ∙ ap (pointed uri) c.as_bytes.ensures.value)
