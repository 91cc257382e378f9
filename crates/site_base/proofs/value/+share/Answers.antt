use Rattle.std.proofs.Common.{ap, arith}
use Rattle.site_base.specs.Plain.{weight}
use Rattle.site_base.specs.View.{plain}
use Rattle.site_base.proofs.Weights.{item_lighter, pair_lighter}
use Rattle.site_base.proofs.value.+share.Goals as goal

pub sharing::copies-copy-requires : goal.sharing::copies-copy-requires
sharing::copies-copy-requires t c =
    (omega (arith, item_lighter _ c.loop-value.value-index c.value-item.result c.loop-value-test.true, ap (λ v. weight (plain v)) c.value-item.is, c.decreases), tt)

pub sharing::shared_pairs-share-requires : goal.sharing::shared_pairs-share-requires
sharing::shared_pairs-share-requires t c =
    (omega (arith, pair_lighter _ c.loop-pair.pair-index c.pair-item.result c.loop-pair-test.true, ap (λ p. weight (plain p.value)) c.pair-item.is, c.decreases), tt)
