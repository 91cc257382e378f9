use Rattle.std.proofs.Common.{◌≡◌, ◌∙◌, ◌-◌, ◌==◌, arith, drop, false, get_or, length, length-drop, refl, sym}
use Rattle.std.proofs.lemmas.List.{take_all}
use Rattle.link_check.proofs.ValueLaws.{none_spelled, other_spelled, pair_spelled}
use Rattle.link_check.proofs.values.spelled.Goals as goal

pub returns-then-text-ne37-clause-form : goal.returns-then-text-ne37-clause-form
returns-then-text-ne37-clause-form c =
    let text = c.args.text.now in
    let other : (get_or text 0 0 == 37) ≡ false = grind (arith, c.if-text-ne37.true) in
    other_spelled text (get_or text 0 0) c.requires refl other

pub returns-in-Some-clause-form : goal.returns-in-Some-clause-form
returns-in-Some-clause-form c =
    let text = c.args.text.now in
    let sign : get_or text 0 0 ≡ 37 = grind (arith, c.if-text-ne37.false) in
    pair_spelled text _ c.in-Some.byte c.requires sign (take_all (length text - 1) (drop 1 text) (omega (arith, length-drop 1 text))) (sym c.in-Some.is ∙ c.hex_pair.ensures.value)

pub returns-in-None-clause-form : goal.returns-in-None-clause-form
returns-in-None-clause-form c =
    let text = c.args.text.now in
    let sign : get_or text 0 0 ≡ 37 = grind (arith, c.if-text-ne37.false) in
    none_spelled text _ c.requires sign (take_all (length text - 1) (drop 1 text) (omega (arith, length-drop 1 text))) (sym c.in-None.is ∙ c.hex_pair.ensures.value)
