use Rattle.cm_spans.proofs.Runs.{textual_ends}
use Rattle.cm_spans.proofs.spans.textual.Goals as goal

pub range-requires-clause-end_boundary : goal.range-requires-clause-end_boundary
range-requires-clause-end_boundary c = (textual_ends c.args.text.now c.textual_run-len.result c.requires c.textual_run-len.ensures.value).cut

pub returns-clause-ends : goal.returns-clause-ends
returns-clause-ends c = textual_ends c.args.text.now c.textual_run-len.result c.requires c.textual_run-len.ensures.value
