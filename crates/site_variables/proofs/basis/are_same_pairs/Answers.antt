use Rattle.std.proofs.Common.{arith}
use Rattle.site_base.proofs.ValueLaws.{pairs_length}
use Rattle.site_variables.proofs.basis.are_same_pairs.Goals as goal

pub returns-then-left-right : goal.returns-then-left-right
returns-then-left-right c = (λ h. cc, λ e. absurd (omega (arith, pairs_length _ _ e, c.if-left-right.true)))
