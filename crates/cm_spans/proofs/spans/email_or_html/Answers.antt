use Rattle.cm_spans.proofs.ClosedBy.{labelled_ends}
use Rattle.cm_spans.proofs.spans.email_or_html.Goals as goal

pub returns-in-Some-clause-ends : goal.returns-in-Some-clause-ends
returns-in-Some-clause-ends c = labelled_ends c.args.text.now c.in-Some.n c.in-Some.ensures.cuts
