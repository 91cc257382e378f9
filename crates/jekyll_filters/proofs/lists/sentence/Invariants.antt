use Rattle.std.proofs.Common.{◌≡◌, ◌++◌, length, drop}
use Rattle.site_base.specs.View.{items_of}
use Rattle.jekyll_filters.specs.Lists.{sentence_from, sentence}
use Rattle.jekyll_filters.proofs.lists.sentence.Given as goal

abbrev pub invariant-loop-place : goal.invariant-loop-place
invariant-loop-place l = l.writer ++ sentence_from l.connector l.place (length l.values) (items_of (drop l.place l.values)) ≡ sentence l.connector (items_of l.values)
