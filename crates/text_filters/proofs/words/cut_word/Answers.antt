use Rattle.std.proofs.Common.{◌≡◌, ◌∙◌, ◌<◌, ap, length, take, arith}
use Rattle.std.specs.List.{prefix_len}
use Rattle.std.proofs.lemmas.Bool.Decides.{nat_tests}
use Rattle.text_filters.proofs.WordLaws.{is_dark, no_words, first_word, first_shorter, word_cut}
use Rattle.text_filters.proofs.words.cut_word.Goals as goal

pub returns-then-is_empty-clause-words : goal.returns-then-is_empty-clause-words
returns-then-is_empty-clause-words c =
    let none : length c.without_front-begun.result.now ≡ 0 = grind (arith, nat_tests) in
    no_words c.args.text.now c.without_front-begun.result.now c.without_front-begun.ensures none

pub range-requires-clause-end_boundary : goal.range-requires-clause-end_boundary
range-requires-clause-end_boundary c =
    let begun = c.without_front-begun.result.now in
    word_cut begun c.word_len-len.result (c.word_len-len.ensures.value ∙ ap (prefix_len is_dark) c.as_bytes.ensures.value) (omega (arith, c.word_len-len.ensures.within, ap length c.as_bytes.ensures.value))

pub range_from-requires : goal.range_from-requires
range_from-requires c = λ _.
    let begun = c.without_front-begun.result.now in
    word_cut begun c.word_len-len.result (c.word_len-len.ensures.value ∙ ap (prefix_len is_dark) c.as_bytes.ensures.value) (omega (arith, c.word_len-len.ensures.within, ap length c.as_bytes.ensures.value))

pub returns-clause-words : goal.returns-clause-words
returns-clause-words c =
    let begun = c.without_front-begun.result.now in
    let some : 0 < length begun = grind (arith, nat_tests) in
    let word : c.range.result.now ≡ take c.word_len-len.result begun = c.range.ensures.value ∙ grind arith in
    first_word c.args.text.now begun c.range.result.now c.range_from.result.now c.word_len-len.result c.without_front-begun.ensures some
    (c.word_len-len.ensures.value ∙ ap (prefix_len is_dark) c.as_bytes.ensures.value) word c.range_from.ensures.value

pub returns-clause-shorter : goal.returns-clause-shorter
returns-clause-shorter c =
    let begun = c.without_front-begun.result.now in
    let some : 0 < length begun = grind (arith, nat_tests) in
    let word : c.range.result.now ≡ take c.word_len-len.result begun = c.range.ensures.value ∙ grind arith in
    first_shorter c.args.text.now begun c.range.result.now c.range_from.result.now c.word_len-len.result c.without_front-begun.ensures some
    (c.word_len-len.ensures.value ∙ ap (prefix_len is_dark) c.as_bytes.ensures.value) word c.range_from.ensures.value
