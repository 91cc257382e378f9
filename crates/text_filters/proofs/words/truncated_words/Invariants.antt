use Rattle.std.proofs.Common.{◌≡◌, ◌++◌, [], length, take}
use Rattle.std.specs.Prelude.{nat_le}
use denote.Shadow.{shadow}
use denote.Text.{Utf8}
use Rattle.text_filters.specs.Words.{words, words_behind}
use Rattle.text_filters.proofs.words.truncated_words.Given as goal

abbrev pub invariant-loop-left : goal.invariant-loop-left
invariant-loop-left l = record {
  utf8 : shadow (Utf8 l.rest);
  utf8_before : shadow (Utf8 l.before);
  so_far : l.made ++ words_behind l.before (take l.left (words l.rest)) ≡ words_behind [] (take l.limit (words l.whole));
  enough : nat_le l.left (length (words l.rest)) ≡ nat_le l.limit (length (words l.whole));
}

abbrev pub decreases-loop-left : goal.decreases-loop-left
decreases-loop-left l = l.left
