use Rattle.std.proofs.Common.{ap, arith}
use Rattle.site_base.specs.Plain.{weight, items_weight}
use Rattle.site_base.specs.View.{plain}
use Rattle.site_base.proofs.Weights.{item_lighter}
use Rattle.site_base.proofs.value.+text.Goals as goal

pub List::push_text-push_text-requires : goal.List::push_text-push_text-requires
List::push_text-push_text-requires t c =
    (omega (arith, item_lighter _ c.loop-value.value-index c.value-item.result c.loop-value-test.true, ap (λ v. weight (plain v)) c.value-item.is, ap items_weight c.as_slice-value-items.ensures, c.decreases), tt)
