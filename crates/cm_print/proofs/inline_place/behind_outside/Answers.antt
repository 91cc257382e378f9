use Rattle.std.proofs.Common.{refl}
use Rattle.cm_print.proofs.WordLaws.{outside_stays}
use Rattle.cm_print.proofs.inline_place.behind_outside.Goals as goal

pub returns-in_default : goal.returns-in_default
returns-in_default c = record { place = outside_stays c.args.node.now c.in_default.not-OpenImage; images = refl }
