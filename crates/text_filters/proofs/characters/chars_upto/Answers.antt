use Rattle.std.proofs.Common.{◌≡◌, ◌∙◌, ◌-◌, length, take, arith}
use Rattle.text_filters.proofs.CharacterLaws.{lengths_of, cut_upto, taken_upto}
use Rattle.text_filters.proofs.characters.chars_upto.Goals as goal

pub overflow_sub-len : goal.overflow_sub-len
overflow_sub-len c = omega (arith, lengths_of c.args.count c.args.text.now c.chars_from.result.now c.utf8.text c.chars_from.ensures)

pub range-requires-clause-end_boundary : goal.range-requires-clause-end_boundary
range-requires-clause-end_boundary c = cut_upto c.args.count c.args.text.now c.chars_from.result.now c.utf8.text c.chars_from.ensures c.chars_from.utf8

pub returns : goal.returns
returns c =
    let len = length c.args.text.now - length c.chars_from.result.now in
    let front : c.range.result.now ≡ take len c.args.text.now = c.range.ensures.value ∙ grind arith in
    front ∙ taken_upto c.args.count c.args.text.now c.chars_from.result.now c.utf8.text c.chars_from.ensures
