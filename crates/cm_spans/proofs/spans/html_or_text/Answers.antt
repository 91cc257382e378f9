use Rattle.std.proofs.Common.{arith}
use Rattle.cm_spans.proofs.Runs.{first_ends}
use Rattle.cm_spans.proofs.spans.html_or_text.Goals as goal

pub range-requires-in-None-clause-end_boundary : goal.range-requires-in-None-clause-end_boundary
range-requires-in-None-clause-end_boundary c = (first_ends c.args.text.now 60 c.utf8.text c.requires.start (omega arith) (omega arith)).cut

pub returns-in-None-clause-ends : goal.returns-in-None-clause-ends
returns-in-None-clause-ends c = first_ends c.args.text.now 60 c.utf8.text c.requires.start (omega arith) (omega arith)
