use Rattle.std.proofs.Common.{◌≡◌, ◌++◌, drop}
use Rattle.site_words.proofs.Gathering.{texts}
use Rattle.site_words.proofs.reading.words_after_first.Given as goal

abbrev pub invariant-loop-place : goal.invariant-loop-place
invariant-loop-place l = texts l.rest.items ++ drop l.place l.words ≡ drop 1 l.words
