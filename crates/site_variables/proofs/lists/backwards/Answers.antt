use Rattle.std.proofs.Common.{◌≡◌, ◌+◌, ◌-◌, ◌<◌, ◌∙◌, ap, arith, length, take}
use Rattle.site_base.specs.Plain.{Items, onto}
use Rattle.site_base.specs.View.{items_of, plain}
use Rattle.site_variables.specs.Gathering.{backwards}
use Rattle.site_variables.proofs.LabelLaws.{turned_end, turned_more}
use Rattle.site_variables.proofs.lists.backwards.Goals as goal

pub loop-place-preserved : goal.loop-place-preserved
loop-place-preserved c =
    let vs = c.args.values.now in let p = c.loop-place.place - 1 in
    let next : p + 1 ≡ c.loop-place.place = omega arith in
    let within : p < length vs = omega arith in
    ap (λ (is : Items). onto is (backwards (items_of (take p vs)))) c.in_ok-push.ensures.ok
    ∙ turned_more c.loop-place.list vs p c.loop-place.place c.index-values-place.result _ within next c.index-values-place.is (ap plain c.in_ok-copy.ensures)
    ∙ c.loop-place.invariant

pub returns : goal.returns
returns c = turned_end c.loop-place.list c.args.values.now c.loop-place.place (omega arith) ∙ c.loop-place.invariant
