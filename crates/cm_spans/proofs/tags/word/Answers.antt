use Rattle.std.proofs.Common.{sym, ◌∙◌}
use Rattle.cm_spans.proofs.ClosedBy.{begins_within}
use Rattle.cm_spans.proofs.tags.word.Goals as goal

pub returns-then-begins-clause-within : goal.returns-then-begins-clause-within
returns-then-begins-clause-within c = begins_within c.args.word.now c.args.text.now (sym c.begins.ensures.value ∙ c.if-begins.true)
