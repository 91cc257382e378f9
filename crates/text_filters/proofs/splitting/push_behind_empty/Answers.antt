use Rattle.std.proofs.Common.{◌∙◌, ◌-◌, ◌<◌, ◌++◌, ◌∷◌, [], ap, arith}
use Rattle.site_base.specs.Plain.{Items, onto}
use Rattle.text_filters.specs.Splitting.{empties, text_items}
use Rattle.text_filters.proofs.SplitLaws.{one_less}
use Rattle.text_filters.proofs.splitting.push_behind_empty.Goals as goal

pub loop-left-preserved : goal.loop-left-preserved
loop-left-preserved c =
    let left = c.loop-left.left in
    let some : 0 < left = omega arith in
    ap (λ (is : Items). onto is (text_items (empties (left - 1) ++ c.args.part.now ∷ []))) c.in_ok-push_text.ensures
    ∙ one_less c.loop-left.list left (c.args.part.now ∷ []) some
    ∙ c.loop-left.invariant
