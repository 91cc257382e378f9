use Rattle.std.proofs.Common.{arith, sym, ◌∙◌}
use Rattle.cm_spans.proofs.Runs.{byte_ends}
use Rattle.cm_inlines.proofs.targets.inline_target.Goals as goal

pub behind_paren-requires : goal.behind_paren-requires
behind_paren-requires c = (byte_ends c.args.text.now 0 40 c.utf8.text (sym c.byte_at.ensures ∙ c.if-byte_at-ne40.false) (omega arith) (omega arith)).cut
