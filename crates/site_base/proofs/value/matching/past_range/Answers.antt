use Rattle.std.proofs.lemmas.Int.{to_z-of_z}
use Rattle.std.proofs.Common.{◌∙◌, ◌++◌, [], ◌∷◌, ap}
use Rattle.std.specs.Option.{option_copied}
use Rattle.site_base.specs.Code.{past}
use Rattle.site_base.specs.Decimal.{signed}
use Rattle.site_base.proofs.PastLaws.{past_both}
use Rattle.site_base.proofs.value.matching.past_range.Goals as goal

pub returns : goal.returns
returns c =
    let first = c.args.first in let last = c.args.last in
    let a = simp (to_z-of_z, c.ranges.first) at c.past_end.ensures in let b = simp (to_z-of_z, c.ranges.last) at c.past_end-2.ensures in
    b ∙ ap (past (signed last ++ 59 ∷ [])) (a ∙ ap (past (signed first ++ 59 ∷ [])) c.past_byte.ensures) ∙ past_both (signed first) (signed last) (option_copied c.args.bytes)
