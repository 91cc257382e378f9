use Rattle.std.proofs.Common.{◌∙◌, ◌+◌, ◌-◌, ap, sym, drop}
use Rattle.site_base.specs.Plain.{onto, item, no_items}
use Rattle.site_base.specs.View.{plain, items_of}
use Rattle.liquid_values.specs.Names.{others}
use Rattle.liquid_values.proofs.OtherLaws.{others-skip, others-keep, others-end, others-full}
use Rattle.liquid_values.proofs.site_members.others.Goals as goal
use Rattle.liquid_values.proofs.site_members.others.Goals.{then-not-is_item+in_ok-copy+in_ok-push, else-not-is_item}

pub returns-then-left-eq0 : goal.returns-then-left-eq0
returns-then-left-eq0 c =
    let n = c.args.item.now in let rest = items_of (drop c.loop-value.value-index c.args.values.now) in
    sym (c.loop-value.invariant ∙ ap (λ left. onto c.loop-value.list (others n left rest)) c.if-left-eq0.true ∙ others-full n rest c.loop-value.list)

pub loop-value-preserved : goal.loop-value-preserved
loop-value-preserved c =
    let n = c.args.item.now in let vs = c.args.values.now in let i = c.loop-value.value-index in let list = c.loop-value.list in let left = c.loop-value.left in
    let rest = items_of (drop (i + 1) vs) in
    elim c.if-not-is_item.branch [
      | then-not-is_item+in_ok-copy+in_ok-push w ↦
          (let e = others-keep n vs i list left c.value-item.result c.loop-value-test.true c.value-item.is (sym c.is_item.ensures ∙ (let h = w.if-not-is_item.true in cc)) c.if-left-eq0.false in
          rw (w.list-is, w.left-is) (c.loop-value.invariant ∙ e ∙ ap (λ l. onto l (others n (left - 1) rest)) (sym (w.in_ok-push.ensures.ok ∙ ap (λ x. onto list (item (plain x) no_items)) w.in_ok-copy.ensures))))
      | else-not-is_item w ↦
          (let e = others-skip n vs i list left c.value-item.result c.loop-value-test.true c.value-item.is (sym c.is_item.ensures ∙ (let h = w.if-not-is_item.false in cc)) in
          rw (w.list-is, w.left-is) (c.loop-value.invariant ∙ e))
    ]

pub returns : goal.returns
returns c =
    sym (c.loop-value.invariant ∙ others-end c.args.item.now c.args.values.now c.loop-value.value-index c.loop-value.list c.loop-value.left c.loop-value-test.false)
