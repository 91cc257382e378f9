use Rattle.std.proofs.Common.{arith}
use Rattle.cm_spans.proofs.Runs.{first_ends, reference_ends}
use Rattle.cm_spans.proofs.spans.character.Goals as goal

pub range-requires-clause-end_boundary : goal.range-requires-clause-end_boundary
range-requires-clause-end_boundary c = (first_ends c.args.text.now 38 c.utf8.text c.requires (omega arith) (omega arith)).cut

pub returns-in-Some-clause-ends : goal.returns-in-Some-clause-ends
returns-in-Some-clause-ends c = reference_ends c.args.text.now c.in-Some.found.end c.utf8.text c.in-Some.ensures.ends

pub returns-in-None-clause-ends : goal.returns-in-None-clause-ends
returns-in-None-clause-ends c = first_ends c.args.text.now 38 c.utf8.text c.requires (omega arith) (omega arith)
