use Rattle.std.proofs.Common.{arith, sym, ◌∙◌}
use Rattle.cm_spans.proofs.Runs.{byte_ends, space_ends}
use Rattle.cm_spans.proofs.spans.spaces.Goals as goal

pub returns-then-byte_at-eq10-clause-ends : goal.returns-then-byte_at-eq10-clause-ends
returns-then-byte_at-eq10-clause-ends c = byte_ends c.args.text.now c.run-n.result 10 c.utf8.text (sym c.byte_at.ensures ∙ c.if-byte_at-eq10.true) (omega arith) (omega arith)

pub returns-clause-ends : goal.returns-clause-ends
returns-clause-ends c = space_ends c.args.text.now c.run-n.result c.byte_at.result c.utf8.text c.requires c.run-n.ensures.value c.byte_at.ensures c.if-byte_at-eq10.false
