use Rattle.std.proofs.Common.{ap, arith}
use Rattle.site_base.specs.Plain.{weight}
use Rattle.site_base.specs.View.{plain}
use Rattle.site_base.proofs.ValueLaws.{items_length, pairs_length}
use Rattle.site_base.proofs.Weights.{item_lighter, pair_lighter}
use Rattle.site_base.proofs.value.+equals.Goals as goal

pub equality::are_same-returns-then-left-right : goal.equality::are_same-returns-then-left-right
equality::are_same-returns-then-left-right t c = (λ h. cc, λ e. absurd (omega (arith, items_length _ _ e, c.if-left-right.true)))

pub equality::are_same_pairs-returns-then-left-right : goal.equality::are_same_pairs-returns-then-left-right
equality::are_same_pairs-returns-then-left-right t c = (λ h. cc, λ e. absurd (omega (arith, pairs_length _ _ e, c.if-left-right.true)))

pub equality::are_same-equals-requires : goal.equality::are_same-equals-requires
equality::are_same-equals-requires t c =
    (omega (arith, item_lighter _ c.loop-place.place c.index-left-place.result c.loop-place-test.true, ap (λ v. weight (plain v)) c.index-left-place.is, c.decreases), tt)

pub equality::are_same_pairs-is_same-requires : goal.equality::are_same_pairs-is_same-requires
equality::are_same_pairs-is_same-requires t c =
    (omega (arith, pair_lighter _ c.loop-place.place c.index-left-place.result c.loop-place-test.true, ap (λ p. weight (plain p.value)) c.index-left-place.is, c.decreases), tt)
