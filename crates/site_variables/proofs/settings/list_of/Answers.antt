use Rattle.std.proofs.Common.{List, ℕ, ap, ◌∙◌, ◌+◌, drop, arith, refl}
use Rattle.site_base.specs.Plain.{Items, onto, text}
use Rattle.site_items.specs.Labels.{text_items}
use Rattle.site_variables.proofs.Filled.{made_more, made_end}
use Rattle.site_variables.proofs.settings.list_of.Goals as goal

pub loop-text-preserved : goal.loop-text-preserved
loop-text-preserved c =
    let xs = c.args.texts.now in let i = c.loop-text.text-index in
    ap (λ (is : Items). onto is (text_items (drop (i + 1) xs))) c.in_ok-push.ensures.ok
    ∙ made_more text_items (λ (s : List ℕ). text s) (λ _ _. refl) c.loop-text.list xs i c.text-item.result _ c.loop-text-test.true c.text-item.is (ap text c.in_ok-share.ensures)
    ∙ c.loop-text.invariant

pub returns : goal.returns
returns c = made_end text_items c.loop-text.list c.args.texts.now c.loop-text.text-index refl (omega arith) ∙ c.loop-text.invariant
