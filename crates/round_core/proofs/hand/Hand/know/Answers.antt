use Rattle.std.proofs.Common.{◌∙◌, ap, sym, set, Some}
use Rattle.round_core.specs.Hands.{taken}
use Rattle.round_core.proofs.hand.Hand.know.Goals as goal

pub returns-in-Agrees : goal.returns-in-Agrees
returns-in-Agrees g c = ap (λ h. set h c.args.item (Some c.args.kept)) c.self.view_is ∙ ap (λ r. taken r c.args.item c.args.kept c.args.self.now) (sym c.in-Agrees.is)
