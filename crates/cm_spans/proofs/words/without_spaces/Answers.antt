use Rattle.cm_spans.proofs.WordLaws.{before_line}
use Rattle.cm_spans.proofs.words.without_spaces.Goals as goal

pub returns-else-text-end-eq32 : goal.returns-else-text-end-eq32
returns-else-text-end-eq32 c = before_line c.args.text.now c.args.line c.loop-end.end c.requires.plain c.loop-end.invariant.within c.loop-end.invariant.line_ends (λ some. c.if-text-end-eq32.false)
