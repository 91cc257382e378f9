use Rattle.std.proofs.Common.{◌≡◌, ◌++◌, drop}
use Rattle.site_tests.specs.Scenarios.{word_list}
use Rattle.site_tests.proofs.scenario.words.Given as goal

abbrev pub invariant-loop-word : goal.invariant-loop-word
invariant-loop-word l = l.words ++ word_list (drop l.word-index l.given) ≡ word_list l.given
