use Rattle.std.proofs.Common.{◌≡◌, ◌-◌, drop, length}
use Rattle.markdown_grammar.specs.Fronts.{has}
use Rattle.markdown_grammar.specs.Readers.{to}
use Rattle.cm_blocks.specs.HtmlEnds.{seen}
use Rattle.cm_blocks.proofs.html_ends.has_word.Given as goal

abbrev pub invariant-loop-at : goal.invariant-loop-at
invariant-loop-at l = has (to l.word (seen l.folds (drop l.at l.text))) ≡ has (to l.word (seen l.folds l.text))

abbrev pub decreases-loop-at : goal.decreases-loop-at
decreases-loop-at l = length l.text - l.at
