use Rattle.std.proofs.Common.{◌<◌, length, arith}
use Rattle.site_dates.proofs.Cuts.{cut_after_letter}
use Rattle.site_dates.proofs.directive.directive_at.Goals as goal

pub returns-in-45-clause-cut : goal.returns-in-45-clause-cut
returns-in-45-clause-cut c =
    rw c.sized.ensures (cut_after_letter c.bare_directive.result c.args.part.now 1 (omega arith) c.bare_directive.ensures.ascii)

pub returns-in-58-clause-cut : goal.returns-in-58-clause-cut
returns-in-58-clause-cut c =
    rw c.sized-in-58.ensures (cut_after_letter c.colon_directive.result c.args.part.now 1 (omega arith) c.colon_directive.ensures.ascii)

pub returns-in-len1-up-clause-cut : goal.returns-in-len1-up-clause-cut
returns-in-len1-up-clause-cut c =
    let some : 0 < length c.args.part.now = grind arith in
    rw c.sized-in-len1-up.ensures (cut_after_letter c.letter_directive.result c.args.part.now 0 some c.letter_directive.ensures.ascii)
