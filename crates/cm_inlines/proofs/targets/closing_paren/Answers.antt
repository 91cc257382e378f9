use Rattle.std.proofs.Common.{arith, sym, ◌∙◌, ◌+◌}
use Rattle.cm_spans.proofs.Runs.{byte_ends}
use Rattle.cm_inlines.proofs.targets.closing_paren.Goals as goal

pub returns-clause-cut : goal.returns-clause-cut
returns-clause-cut c = (byte_ends c.args.text.now (c.args.n + c.white_gap-gap.result) 41 c.utf8.text (sym c.byte_at.ensures ∙ c.if-byte_at-ne41.false) (omega arith) (omega arith)).cut
