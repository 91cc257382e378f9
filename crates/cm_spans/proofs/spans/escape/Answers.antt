use Rattle.std.proofs.Common.{arith, sym, ◌∙◌}
use Rattle.cm_spans.proofs.Runs.{byte_ends, first_ends, punct_ascii, punct_some}
use Rattle.cm_spans.proofs.spans.escape.Goals as goal

pub returns-then-c-eq10-clause-ends : goal.returns-then-c-eq10-clause-ends
returns-then-c-eq10-clause-ends c = byte_ends c.args.text.now 1 10 c.utf8.text (sym c.byte_at-c.ensures ∙ c.if-c-eq10.true) (omega arith) (omega arith)

pub returns-then-is_punctuation-clause-ends : goal.returns-then-is_punctuation-clause-ends
returns-then-is_punctuation-clause-ends c =
    let punct = sym c.is_punctuation.ensures ∙ c.if-is_punctuation.true in
    byte_ends c.args.text.now 1 c.byte_at-c.result c.utf8.text (sym c.byte_at-c.ensures) (punct_some c.byte_at-c.result punct) (punct_ascii c.byte_at-c.result punct)

pub range-requires-clause-end_boundary : goal.range-requires-clause-end_boundary
range-requires-clause-end_boundary c = (first_ends c.args.text.now 92 c.utf8.text c.requires (omega arith) (omega arith)).cut

pub returns-clause-ends : goal.returns-clause-ends
returns-clause-ends c = first_ends c.args.text.now 92 c.utf8.text c.requires (omega arith) (omega arith)
