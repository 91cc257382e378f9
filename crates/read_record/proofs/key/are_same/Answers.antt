use Rattle.std.proofs.Common.{arith}
use Rattle.site_base.proofs.ValueLaws.{items_length}
use Rattle.read_record.proofs.key.are_same.Goals as goal

pub returns-then-left-right : goal.returns-then-left-right
returns-then-left-right c = (λ h. cc, λ e. absurd (omega (arith, items_length _ _ e, c.if-left-right.true)))
