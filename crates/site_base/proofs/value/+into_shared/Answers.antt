use Rattle.std.proofs.Common.{◌<◌, length, ap, arith}
use Rattle.site_base.specs.Plain.{weight, items_weight, pairs_weight}
use Rattle.site_base.specs.View.{plain, items_of, pairs_of}
use Rattle.site_base.proofs.Weights.{item_lighter, pair_lighter}
use Rattle.site_base.proofs.value.+into_shared.Goals as goal

pub sharing::make_shared-into_shared-requires : goal.sharing::make_shared-into_shared-requires
sharing::make_shared-into_shared-requires t c =
    let vs = c.loop-value.values in let i = c.loop-value.value-index in
    let lt : i < length vs = omega arith in
    (omega (arith, item_lighter vs i c.value-item.result lt, ap (λ v. weight (plain v)) c.value-item.is, ap (λ v. weight (plain v)) c.replace-taken.ensures.value, ap (λ us. items_weight (items_of us)) c.loop-value.invariant, c.decreases), tt)

pub sharing::make_pairs_shared-into_shared-requires : goal.sharing::make_pairs_shared-into_shared-requires
sharing::make_pairs_shared-into_shared-requires t c =
    let ps = c.loop-pair.pairs in let i = c.loop-pair.pair-index in
    let lt : i < length ps = omega arith in
    (omega (arith, pair_lighter ps i c.pair-item.result lt, ap (λ p. weight (plain p.value)) c.pair-item.is, ap (λ p. weight (plain p.value)) c.replace.ensures.value, ap (λ qs. pairs_weight (pairs_of qs)) c.loop-pair.invariant, c.decreases), tt)
