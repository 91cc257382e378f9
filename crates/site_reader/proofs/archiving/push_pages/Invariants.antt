use Rattle.std.proofs.Common.{◌≡◌, ◌++◌, length, map}
use Rattle.std.specs.Vec.Iter.{into_iter_items, into_iter_len}
use Rattle.site_reader.specs.Making.{archive_page}
use Rattle.site_reader.proofs.archiving.push_pages.Given as goal

abbrev pub invariant-loop-archive : goal.invariant-loop-archive
invariant-loop-archive l = (l.all.items ++ map (archive_page l.config l.word) (into_iter_items l.archive-iterator) ≡ l.fn.pages.items ++ map (archive_page l.config l.word) l.fn.made)
    × (into_iter_len l.archive-iterator ≡ length (into_iter_items l.archive-iterator))
