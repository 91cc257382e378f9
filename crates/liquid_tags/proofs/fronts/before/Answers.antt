use Rattle.std.proofs.Common.{sym}
use Rattle.liquid_tags.proofs.FrontLaws.{before_some, before_none}
use Rattle.liquid_tags.proofs.fronts.before.Goals as goal

pub returns-in-Some : goal.returns-in-Some
returns-in-Some c = sym (before_some c.args.mark.now c.args.text.now c.in-Some.front.now _ c.in-Some.ensures.cases)

pub returns-in-None : goal.returns-in-None
returns-in-None c = sym (before_none c.args.mark.now c.args.text.now c.in-None.ensures.cases)
