use Rattle.std.proofs.Common.{ap, arith}
use Rattle.site_base.specs.Plain.{weight, items_weight, pairs_weight}
use Rattle.site_base.specs.View.{plain}
use Rattle.site_base.proofs.Weights.{item_lighter, pair_lighter}
use Rattle.site_base.proofs.value.+code.Goals as goal

pub List::push_code-push_code-requires : goal.List::push_code-push_code-requires
List::push_code-push_code-requires t c =
    (omega (arith, item_lighter _ c.loop-value.value-index c.value-item.result c.loop-value-test.true, ap (λ v. weight (plain v)) c.value-item.is, ap items_weight c.as_slice-value-items.ensures, c.decreases), tt)

pub Hash::push_code-push_code-requires : goal.Hash::push_code-push_code-requires
Hash::push_code-push_code-requires t c =
    (omega (arith, pair_lighter _ c.loop-pair.pair-index c.pair-item.result c.loop-pair-test.true, ap (λ p. weight (plain p.value)) c.pair-item.is, ap pairs_weight c.as_slice-pair-items.ensures, c.decreases), tt)
