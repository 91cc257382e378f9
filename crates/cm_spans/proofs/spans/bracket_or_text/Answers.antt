use Rattle.std.proofs.Common.{arith, sym, ◌∙◌}
use Rattle.cm_spans.proofs.Runs.{byte_ends}
use Rattle.cm_spans.proofs.spans.bracket_or_text.Goals as goal

pub returns-then-c-eq91-clause-ends : goal.returns-then-c-eq91-clause-ends
returns-then-c-eq91-clause-ends c = byte_ends c.args.text.now 0 91 c.utf8.text (sym c.byte_at-c.ensures ∙ c.if-c-eq91.true) (omega arith) (omega arith)

pub returns-then-byte_at-eq91-clause-ends : goal.returns-then-byte_at-eq91-clause-ends
returns-then-byte_at-eq91-clause-ends c = byte_ends c.args.text.now 1 91 c.utf8.text (sym c.byte_at.ensures ∙ c.if-byte_at-eq91.true) (omega arith) (omega arith)
