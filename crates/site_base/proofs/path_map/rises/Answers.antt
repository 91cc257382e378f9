use Rattle.std.proofs.Common.{arith, sym, ◌∙◌, refl}
use Rattle.site_base.proofs.Sorting.{no_rise, next_above_more, rises_from_next, less}
use Rattle.site_base.proofs.path_map.rises.Goals as goal

pub returns-then-not-is_less : goal.returns-then-not-is_less
returns-then-not-is_less g c = (
  (λ t. absurd (cc (t))),
  (λ rises.
      absurd (no_rise c.args.entries.now _ _ _ _ c.is_less.result (omega arith) (omega arith) c.is_less.ensures c.if-not-is_less.true rises)),
)

pub loop-place-preserved : goal.loop-place-preserved
loop-place-preserved g c =
    next_above_more c.args.entries.now _ _ _ _ c.loop-place.invariant (omega arith) (omega arith)
    (less _ (sym c.is_less.ensures ∙ c.if-not-is_less.false))

pub returns : goal.returns
returns g c = ((λ t. rises_from_next c.args.entries.now (λ k d lt. c.loop-place.invariant k d (omega arith))), (λ rises. refl))
