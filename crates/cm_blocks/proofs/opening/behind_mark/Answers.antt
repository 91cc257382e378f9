use Rattle.cm_blocks.proofs.OpeningLaws.{mark_spot}
use Rattle.cm_blocks.proofs.opening.behind_mark.Goals as goal

pub returns-clause-spot : goal.returns-clause-spot
returns-clause-spot c = mark_spot c.args.line.now c.args.white c.args.count c.utf8.line c.requires.spot c.requires.whole c.requires.mark
