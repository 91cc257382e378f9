use Rattle.std.proofs.Common.{◌≡◌, ◌++◌, drop}
use Rattle.site_reader.specs.Making.{archive_posts}
use Rattle.site_reader.proofs.archiving.archive_posts.Given as goal

abbrev pub invariant-loop-item : goal.invariant-loop-item
invariant-loop-item l = l.posts.items ++ archive_posts l.word (drop l.item-index l.items) ≡ archive_posts l.word l.items
