use Rattle.std.proofs.Common.{sym, ◌∙◌}
use Rattle.cm_blocks.proofs.BreakLaws.{excluded}
use Rattle.cm_blocks.proofs.opening.excludes.Goals as goal

pub returns : goal.returns
returns c = λ b. excluded c.args.line.now c.args.at c.args.known c.requires c.if-at-known.false c.if-line-at.false (sym c.is_break_bullet.ensures ∙ b)
