use Rattle.std.proofs.Common.{◌≡◌, ◌∙◌, length, arith}
use Rattle.std.proofs.lemmas.Bool.Decides.{nat_tests}
use Rattle.text_filters.proofs.CharacterLaws.{all_from, empty_from}
use Rattle.text_filters.proofs.characters.chars_from.Goals as goal

pub returns-else-not-is_empty : goal.returns-else-not-is_empty
returns-else-not-is_empty c =
    let none : length c.loop-left.rest.now ≡ 0 = grind (arith, nat_tests) in
    empty_from c.loop-left.left c.loop-left.rest.now none ∙ c.loop-left.invariant.so_far

pub returns-after-loop-left : goal.returns-after-loop-left
returns-after-loop-left c = all_from c.loop-left.left c.loop-left.rest.now (omega arith) c.loop-left.invariant.utf8 ∙ c.loop-left.invariant.so_far
