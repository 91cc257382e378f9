use Rattle.std.proofs.Common.{◌≡◌, ◌∷◌, ◌∙◌, ap, ap₂, sym, take, ◌+◌, length, arith, length-drop}
use Rattle.std.specs.Prelude.{position}
use Rattle.std.specs.List.{slice_split}
use Rattle.site_items.specs.Labels.{is_white}
use Rattle.site_items.proofs.Cutting.{WhiteAt, no_white, white_at}
use Rattle.site_items.proofs.cuts.cut_word.Goals as goal

pub range-requires-clause-end_boundary : goal.range-requires-clause-end_boundary
range-requires-clause-end_boundary c = (white_at c.args.text.now c.in-Some.place (sym c.in-Some.is ∙ c.white_place.ensures ∙ ap (position is_white) c.as_bytes.ensures.value)).start

pub range_from-requires : goal.range_from-requires
range_from-requires c = λ _. (white_at c.args.text.now c.in-Some.place (sym c.in-Some.is ∙ c.white_place.ensures ∙ ap (position is_white) c.as_bytes.ensures.value)).behind c.utf8.text

pub returns-in-Some-clause-parts : goal.returns-in-Some-clause-parts
returns-in-Some-clause-parts c =
    let found : WhiteAt c.args.text.now c.in-Some.place = white_at c.args.text.now c.in-Some.place (sym c.in-Some.is ∙ c.white_place.ensures ∙ ap (position is_white) c.as_bytes.ensures.value) in
    let word : c.range.result.now ≡ take c.in-Some.place c.args.text.now = c.range.ensures.value ∙ grind arith in
    found.parts ∙ ap₂ (λ w s. w ∷ slice_split is_white s) (sym word) (sym c.range_from.ensures.value)

pub returns-in-Some-clause-shorter : goal.returns-in-Some-clause-shorter
returns-in-Some-clause-shorter c =
    let found : WhiteAt c.args.text.now c.in-Some.place = white_at c.args.text.now c.in-Some.place (sym c.in-Some.is ∙ c.white_place.ensures ∙ ap (position is_white) c.as_bytes.ensures.value) in
    omega (arith, ap length c.range_from.ensures.value, length-drop (c.in-Some.place + 1) c.args.text.now, found.inside)

pub returns-in-None-clause-parts : goal.returns-in-None-clause-parts
returns-in-None-clause-parts c = no_white c.args.text.now (sym c.in-None.is ∙ c.white_place.ensures ∙ ap (position is_white) c.as_bytes.ensures.value)
