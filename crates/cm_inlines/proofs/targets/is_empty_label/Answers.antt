use Rattle.std.proofs.Common.{arith, sym, ◌∙◌}
use Rattle.cm_spans.proofs.Runs.{byte_ends}
use Rattle.cm_inlines.proofs.targets.is_empty_label.Goals as goal

pub returns-then-byte_at-eq93-clause-cut : goal.returns-then-byte_at-eq93-clause-cut
returns-then-byte_at-eq93-clause-cut c = (byte_ends c.args.text.now 1 93 c.utf8.text (sym c.byte_at-then-byte_at-eq91.ensures ∙ c.if-byte_at-eq93.true) (omega arith) (omega arith)).cut
